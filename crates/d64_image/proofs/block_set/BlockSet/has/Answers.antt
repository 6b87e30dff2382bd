use Rattle.std.proofs.Common.{ℕ, ◌/◌, ◌%◌, nat_eq, get_or, sym, ap, ap₂, ◌∙◌}
use Rattle.std.specs.FinSet.{contains}
use Rattle.std.proofs.lemmas.Nat.Bits.{shr_and_one}
use Rattle.d64_image.specs.Marks.{contains-marked_blocks}
use Rattle.d64_image.proofs.Sets.{members_are_blocks}
use Rattle.d64_image.proofs.block_set.BlockSet.has.Goals as goal

pub returns-clause-value : goal.returns-clause-value
returns-clause-value c =
    let words = c.self.inside.words in
    let index = c.index-index.result in
    ap (λ (bit : ℕ). nat_eq bit 1) (shr_and_one (get_or words (index / 32) 0) (index % 32))
    ∙ sym (contains-marked_blocks words index c.index-index.ensures.within)
    ∙ ap₂ contains c.self.view_is c.index-index.ensures.value

pub returns-clause-blocks : goal.returns-clause-blocks
returns-clause-blocks c = members_are_blocks c.self.inside.words c.args.self.now c.self.view_is
