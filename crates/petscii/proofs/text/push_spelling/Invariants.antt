use Rattle.std.proofs.Common.{◌≡◌, ◌++◌, take}
use Rattle.petscii.specs.Spelling.{spelling}
use Rattle.petscii.proofs.text.push_spelling.Given as goal

abbrev pub invariant-loop-byte : goal.invariant-loop-byte
invariant-loop-byte l = l.text.items ≡ l.initial.text.items ++ spelling (take l.byte-index l.bytes)
