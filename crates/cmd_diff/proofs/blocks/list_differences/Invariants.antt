use Rattle.std.proofs.Common.{◌≡◌, ◌++◌, ◌<◌, length, not, nat_eq}
use Rattle.std.specs.List.{All, filter}
use Rattle.std.specs.Cmp.Lexicographic.{pointwise}
use Rattle.d64_image.specs.Image.{sector_at, differences}
use Rattle.cmd_diff.proofs.blocks.list_differences.Given as goal

abbrev pub invariant-loop-block : goal.invariant-loop-block
invariant-loop-block l = record {
  kept : l.blocks.items ++ filter (λ block. not (pointwise nat_eq (sector_at l.image block) (sector_at l.other block))) l.block-iterator ≡ differences l.image l.other;
  within : All (λ block. block < length l.image) l.block-iterator;
}
