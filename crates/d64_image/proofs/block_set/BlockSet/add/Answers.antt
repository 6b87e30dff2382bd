use Rattle.std.proofs.Common.{◌/◌, ◌%◌, get_or, refl, ap₂, ◌∙◌}
use Rattle.std.specs.FinSet.{insert}
use Rattle.std.proofs.Math.ListN.{set}
use Rattle.d64_image.specs.BlockSet.{marked_blocks}
use Rattle.d64_image.proofs.Sets.{with_bit, with_bit-fits, AreWords-set, inserted, members_are_blocks}
use Rattle.d64_image.proofs.block_set.BlockSet.add.Goals as goal

pub invariant_of-self : goal.invariant_of-self
invariant_of-self c =
    let words = c.self.inside.words in
    let index = c.index-index.result in
    AreWords-set words (index / 32) (with_bit (get_or words (index / 32) 0) (index % 32)) c.self.invariant (with_bit-fits words index c.self.invariant c.index-index.ensures.within)

pub returns-clause-value : goal.returns-clause-value
returns-clause-value c =
    inserted c.self.inside.words c.index-index.result c.self.invariant c.index-index.ensures.within ∙ ap₂ insert c.self.view_is c.index-index.ensures.value

pub returns-clause-blocks : goal.returns-clause-blocks
returns-clause-blocks c =
    let words = c.self.inside.words in
    let index = c.index-index.result in
    let new = set words (index / 32) (with_bit (get_or words (index / 32) 0) (index % 32)) in
    members_are_blocks new (marked_blocks new) refl
