use Rattle.std.proofs.Common.{◌≡◌, ◌++◌}
use Rattle.cmd_diff.specs.Changes.{slot_changes}
use Rattle.cmd_diff.specs.Differences.{printed_changes}
use Rattle.cmd_diff.proofs.printing.print_slots.Given as goal

abbrev pub invariant-loop-slot : goal.invariant-loop-slot
invariant-loop-slot l = record {
  before : l.before ≡ l.fn.old;
  after : l.after ≡ l.fn.new;
  text : l.text.items ≡ l.fn.out.items ++ printed_changes l.form (slot_changes l.fn.old l.fn.new l.slot);
}
