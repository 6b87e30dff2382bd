-- the sectors of a track and their blocks
use Rattle.std.proofs.Common.{◌≡◌, ℕ, ◌+◌, ◌-◌, ◌<◌, ◌≤◌, false, Option, ap, ◌∙◌, arith}
use Rattle.std.proofs.lemmas.Bool.Decides.{nat_tests}
use Rattle.std.specs.List.{range_with_len, sum_by}
use Rattle.std.specs.Option.{option_map_or}
use Rattle.std.specs.Ordering.{nat_cmp}
use Rattle.std.specs.FinSet as set
use Rattle.d64_image.specs.Block.{sectors_on, first_block}
use Rattle.d64_image.proofs.Pairs.{block_of-legal, block_of-none}
use Rattle.d64_map.specs.Track.{has_sector}
use Rattle.d64_map.proofs.Ranges.{sum_by-range_push}

-- if the disk has a sector, its block decides
pub has_sector-legal : (blocks : set.FinSet nat_cmp) (track sector : ℕ) → 1 ≤ track → track < 41 → sector < sectors_on track
    → has_sector blocks track sector ≡ set.contains blocks (first_block track + sector)
unfolding has_sector
has_sector-legal blocks track sector one last held =
    ap (λ (o : Option ℕ). option_map_or (set.contains blocks) o false) (block_of-legal track sector one last held)

-- a sector that the disk does not have is not in the set
pub has_sector-none : (blocks : set.FinSet nat_cmp) (track sector : ℕ) → sectors_on track ≤ sector → has_sector blocks track sector ≡ false
unfolding has_sector
has_sector-none blocks track sector past =
    ap (λ (o : Option ℕ). option_map_or (set.contains blocks) o false) (block_of-none track sector (λ _ _ held. omega (arith, held, past)))

-- each track has sectors
pub sectors_some : (track : ℕ) → 0 < sectors_on track
sectors_some track = grind (arith, nat_tests)

-- a track's blocks end where those of the next track begin
pub first_block-next : (track : ℕ) → 1 ≤ track → first_block (track + 1) ≡ first_block track + sectors_on track
unfolding first_block
first_block-next track one =
    let e : track + 1 - 1 ≡ track - 1 + 1 = omega arith in
    let k_is : 1 + (track - 1) ≡ track = omega arith in
    ap (λ (n : ℕ). sum_by sectors_on (range_with_len 1 n)) e ∙ sum_by-range_push sectors_on 1 (track - 1)
    ∙ ap (λ (t : ℕ). sum_by sectors_on (range_with_len 1 (track - 1)) + sectors_on t) k_is
