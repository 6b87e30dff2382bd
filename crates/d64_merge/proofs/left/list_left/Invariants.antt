use Rattle.std.proofs.Common.{◌≡◌, map, filter}
use Rattle.std.specs.List.{range_with_len}
use Rattle.d64_merge.specs.Left.{is_entry_left}
use Rattle.d64_merge.proofs.left.list_left.Given as goal

abbrev pub invariant-loop-entry : goal.invariant-loop-entry
invariant-loop-entry l = l.entries.items ≡ filter (is_entry_left l.tracks l.list (map (λ file. file.items) l.files)) (range_with_len 0 l.entry)
