use Rattle.std.proofs.Common.{◌≡◌, ℕ, false, ap, ◌∙◌}
use Rattle.std.specs.FinSet as set
use Rattle.std.specs.FinSet.{contains-empty}
use Rattle.std.specs.Ordering.{nat_cmp}
use Rattle.d64_image.specs.BlockSet.{MembersAreBelow}
use Rattle.test_growths.proofs.writers.no_blocks.Goals as goal

-- the members of the empty set lie below each number
below : (count : ℕ) (blocks : set.FinSet nat_cmp) → blocks ≡ set.empty → MembersAreBelow count blocks
below count blocks empty block member =
    let none : set.contains blocks block ≡ false = ap (λ (s : set.FinSet nat_cmp). set.contains s block) empty ∙ contains-empty nat_cmp block in
    absurd (cc)

pub returns : goal.returns
returns c = below _ c.empty.result c.empty.ensures.value
