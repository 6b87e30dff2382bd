use Rattle.std.proofs.Common.{◌≡◌, ◌++◌, drop}
use Rattle.out_messages.specs.FileText.{flaws_from}
use Rattle.out_messages.proofs.file_text.push_flaws.Given as goal

abbrev pub invariant-loop-flaw : goal.invariant-loop-flaw
invariant-loop-flaw l = record {
  place : l.place ≡ l.flaw-index;
  text : l.out.items ++ flaws_from l.shown l.there l.flaw-index (drop l.flaw-index l.flaws) ≡ l.initial.out.items ++ flaws_from l.shown l.there 0 l.flaws;
}
