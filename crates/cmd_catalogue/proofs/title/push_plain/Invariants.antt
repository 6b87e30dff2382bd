use Rattle.std.proofs.Common.{◌≡◌, ◌++◌}
use Rattle.std.specs.Prelude.{map}
use Rattle.std.specs.List.{range_with_len}
use Rattle.cmd_catalogue.specs.Title.{plain_byte}
use Rattle.cmd_catalogue.proofs.title.push_plain.Given as goal

abbrev pub invariant-loop-place : goal.invariant-loop-place
invariant-loop-place l = l.out.items ≡ l.initial.out.items ++ map (plain_byte l.text) (range_with_len 0 l.place)
