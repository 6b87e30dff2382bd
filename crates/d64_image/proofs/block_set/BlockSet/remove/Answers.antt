use Rattle.std.proofs.Common.{◌/◌, ◌%◌, get_or, refl, ap₂, ◌∙◌}
use Rattle.std.specs.FinSet.{remove}
use Rattle.std.proofs.Math.ListN.{set}
use Rattle.d64_image.specs.BlockSet.{marked_blocks}
use Rattle.d64_image.proofs.Sets.{without_bit, removed, members_are_blocks}
use Rattle.d64_image.proofs.block_set.BlockSet.remove.Goals as goal

pub returns-clause-value : goal.returns-clause-value
returns-clause-value c =
    removed c.self.inside.words c.index-index.result c.self.invariant c.index-index.ensures.within ∙ ap₂ remove c.self.view_is c.index-index.ensures.value

pub returns-clause-blocks : goal.returns-clause-blocks
returns-clause-blocks c =
    let words = c.self.inside.words in
    let index = c.index-index.result in
    let new = set words (index / 32) (without_bit (get_or words (index / 32) 0) (index % 32)) in
    members_are_blocks new (marked_blocks new) refl
