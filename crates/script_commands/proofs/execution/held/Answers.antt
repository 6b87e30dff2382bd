use Rattle.std.proofs.Common.{rules, ◌≡◌, ◌∷◌, All, arith}
use Rattle.std.proofs.lemmas.List.Elements.{All-tail}
use Rattle.std.proofs.lemmas.Grind.{common_steps}
use Rattle.script_text.specs.Words.{IsPrintable}
use Rattle.script_commands.proofs.execution.held.Goals as goal

pub loop-word-preserved : goal.loop-word-preserved
loop-word-preserved g c =
    let steps : c.loop-word.word-iterator ≡ c.in-Some.word.now ∷ c.next.new.self = search rules in
    let printable : All (All IsPrintable) (c.in-Some.word.now ∷ c.next.new.self) = rw steps at c.loop-word.invariant.printable in
    record {
      words = grind (arith, common_steps);
      room = grind (arith, common_steps);
      printable = All-tail (All IsPrintable) c.in-Some.word.now c.next.new.self printable;
    }
