use Rattle.std.proofs.Common.{◌≡◌, ℕ, List, ◌++◌, Option, sym, ap, ap₂, ◌∙◌, append-nil}
use Rattle.d64_survey.specs.Dump.{DumpView}
use Rattle.d64_inventory.specs.Rows.{FileRowView, row_at}
use Rattle.cmd_diff.specs.Changes.{DumpChange, slot_change, slot_changes}
use Rattle.cmd_diff.specs.Differences.{printed_changes}
use Rattle.cmd_diff.proofs.Printed.{then_printed, slot_more}
use Rattle.cmd_diff.proofs.printing.print_slots.Goals as goal

pub loop-slot-init : goal.loop-slot-init
unfolding slot_changes printed_changes
loop-slot-init c = record { before = c.of-before.ensures; after = c.of-after.ensures; text = sym (append-nil c.args.out.items) }

pub loop-slot-preserved : goal.loop-slot-preserved
loop-slot-preserved c =
    let form = c.args.form in
    let old = c.args.old.now in
    let new = c.args.new.now in
    let slot = c.loop-slot.slot in
    let text = c.loop-slot.text.items in
    let invariant = c.loop-slot.invariant in
    let first : c.row-old_row.result ≡ row_at old slot = c.row-old_row.ensures.row ∙ ap₂ (λ (d : DumpView) (n : ℕ). row_at d n) invariant.before c.at.ensures in
    let second : c.row-new_row.result ≡ row_at new slot = c.row-new_row.ensures.row ∙ ap₂ (λ (d : DumpView) (n : ℕ). row_at d n) invariant.after c.at-in-loop-slot.ensures in
    let reported = c.in_ok-text.ensures ∙ ap₂ (λ (a b : Option FileRowView). text ++ printed_changes form (slot_change a b)) first second in
    record {
      before = c.row-old_row.ensures.same ∙ invariant.before;
      after = c.row-new_row.ensures.same ∙ invariant.after;
      text = then_printed form c.args.out.items text _ (slot_changes old new slot) (slot_change (row_at old slot) (row_at new slot)) invariant.text reported
          ∙ ap (λ (list : List DumpChange). c.args.out.items ++ printed_changes form list) (slot_more old new slot);
    }
