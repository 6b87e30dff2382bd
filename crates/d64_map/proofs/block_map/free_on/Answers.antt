use Rattle.std.proofs.Common.{ℕ, ◌<◌, bit_and, length, nat_eq, ap, ◌∙◌, arith}
use Rattle.std.specs.Prelude.{count_ones}
use Rattle.std.specs.Int.{bit_at}
use Rattle.std.specs.FinSet as set
use Rattle.std.proofs.lemmas.Nat.{and_mask}
use Rattle.d64_image.specs.Block.{sectors_on, first_block}
use Rattle.d64_image.proofs.Sizes.{counted_within, tracks_most}
use Rattle.d64_map.specs.Map.{free_blocks}
use Rattle.d64_map.specs.Track.{blocks_on, members_on}
use Rattle.d64_map.proofs.FreeBlocks.{bit_is_member}
use Rattle.d64_map.proofs.Maps.{sectors_few}
use Rattle.d64_map.proofs.TrackBits.{ones_counted, counted_alike}
use Rattle.d64_map.proofs.block_map.free_on.Goals as goal

pub returns : goal.returns
unfolding members_on blocks_on
returns c =
    let image = c.args.image.now in
    let track = c.args.track in
    let bits = c.bits_on.result in
    let count : ℕ = sectors_on track in
    let few = sectors_few track in
    let free = set.contains (free_blocks image) in
    record {
      free = ap (λ (n : ℕ). count_ones (bit_and bits n)) c.sector_mask.ensures
          ∙ ap count_ones (and_mask bits count)
          ∙ ones_counted bits count
          ∙ counted_alike (λ s. nat_eq (bit_at bits s) 1) free (first_block track) count
          (λ s h.
          let held : s < sectors_on track = h in
          ap (λ (n : ℕ). nat_eq n 1) (c.bits_on.ensures s (omega (arith, few, h)))
          ∙ bit_is_member image track s c.map_of.result.now c.map_of.ensures.value c.requires.track.0
          (let most = tracks_most (length image) c.known_image.ensures.size in omega (arith, most, c.requires.track.1)) held
          (counted_within (length image) track s c.known_image.ensures.size c.requires.track.1 held));
    }
