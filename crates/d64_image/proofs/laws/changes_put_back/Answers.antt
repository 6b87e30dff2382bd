use Rattle.std.proofs.Common.{ℕ, refl}
use Rattle.std.proofs.lemmas.List.{length-map}
use Rattle.d64_image.specs.Image.{sector_at, differences}
use Rattle.d64_image.specs.Patch.{restored_image, changed_blocks}
use Rattle.d64_image.proofs.Patches.{restored_image-changed_blocks}
use Rattle.d64_image.proofs.laws.changes_put_back.Goals as goal

pub returns-clause-empty : goal.returns-clause-empty
unfolding restored_image
returns-clause-empty c image = refl

pub returns-clause-back : goal.returns-clause-back
returns-clause-back c = restored_image-changed_blocks

pub returns-clause-count : goal.returns-clause-count
unfolding changed_blocks
returns-clause-count c before after = length-map (differences before after) (λ (block : ℕ). (block, sector_at before block))
