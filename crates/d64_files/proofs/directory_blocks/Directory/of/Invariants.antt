use Rattle.std.proofs.Common.{ℕ, ◌<◌, get_or}
use Rattle.std.specs.Prelude.{All}
use Rattle.d64_image.specs.Image.{sector_at}
use Rattle.d64_files.specs.Slot.{cells, HasKind}
use Rattle.d64_files.proofs.directory_blocks.Directory.of.Given as goal

abbrev pub invariant-loop-block : goal.invariant-loop-block
invariant-loop-block l = (k : ℕ) → k < l.block-index → All HasKind (cells (sector_at l.image (get_or l.block-items k 0)))
