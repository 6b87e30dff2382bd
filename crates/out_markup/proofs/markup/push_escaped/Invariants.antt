use Rattle.std.proofs.Common.{◌≡◌, ◌++◌, take}
use Rattle.out_markup.specs.Markup.{escaped_text}
use Rattle.out_markup.proofs.markup.push_escaped.Given as goal

abbrev pub invariant-loop-byte : goal.invariant-loop-byte
invariant-loop-byte l = l.out.items ≡ l.initial.out.items ++ escaped_text (take l.byte-index l.text)
