use Rattle.std.proofs.Common.{◌≡◌, ◌++◌, drop}
use Rattle.out_markup.specs.Markup.{escaped_within}
use Rattle.out_markup.proofs.markup.push_escaped_within.Given as goal

abbrev pub invariant-loop-byte : goal.invariant-loop-byte
invariant-loop-byte l = l.out.items ++ escaped_within l.left (drop l.byte-index l.text) ≡ l.initial.out.items ++ escaped_within l.limit l.text
