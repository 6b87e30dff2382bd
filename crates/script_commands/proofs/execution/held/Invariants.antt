use Rattle.std.proofs.Common.{◌≡◌, ◌+◌, ◌≤◌, ◌++◌, All, length, map}
use Rattle.arrayvec.specs.ArrayVec.{array_vec_len}
use Rattle.script_text.specs.Words.{IsPrintable}
use Rattle.script_commands.proofs.execution.held.Given as goal

abbrev pub invariant-loop-word : goal.invariant-loop-word
invariant-loop-word g l = record {
  words : map (λ word. word.now) l.found.items ++ l.word-iterator ≡ l.fn.words;
  room : array_vec_len l.found + length l.word-iterator ≤ g.row.ROOM;
  printable : All (All IsPrintable) l.word-iterator;
}
