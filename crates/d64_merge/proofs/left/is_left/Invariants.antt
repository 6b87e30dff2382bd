use Rattle.std.proofs.Common.{◌≡◌, map, take}
use Rattle.std.specs.List.{list_any}
use Rattle.d64_merge.specs.Left.{holds_missing}
use Rattle.d64_merge.proofs.left.is_left.Given as goal

abbrev pub invariant-loop-file : goal.invariant-loop-file
invariant-loop-file l = l.is_one ≡ list_any (holds_missing l.list l.entry) (map (λ file. file.items) (take l.file-index l.files))
