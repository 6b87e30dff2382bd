use Rattle.std.proofs.Common.{ℕ, ◌<◌, bit_and, ap, ◌∙◌, refl, arith}
use Rattle.std.proofs.lemmas.Nat.{and_mask}
use Rattle.d64_image.specs.Block.{sectors_on}
use Rattle.d64_map.specs.Track.{has_sector}
use Rattle.d64_map.proofs.Bits.{bits_past}
use Rattle.d64_map.proofs.Maps.{sectors_few}
use Rattle.d64_map.proofs.MemberBits.{members_read}
use Rattle.d64_map.proofs.Sectors.{has_sector-none}
use Rattle.d64_map.proofs.tracks.member_bits.Goals as goal

pub returns : goal.returns
returns c =
    let blocks = c.args.blocks.now in
    let track = c.args.track in
    let count : ℕ = sectors_on track in
    let few : sectors_on track < 32 = let most = sectors_few track in omega arith in
    record {
      bits = λ places all.
          ap (bit_and c.bits_from.result) c.sector_mask.ensures
          ∙ and_mask c.bits_from.result (sectors_on track)
          ∙ members_read blocks track c.first_block.result (sectors_on track) c.bits_from.result c.first_block.ensures.range.0 c.first_block.ensures.range.1 refl c.first_block.ensures.first few c.bits_from.ensures
          ∙ bits_past (has_sector blocks track) (sectors_on track) places all (λ s past. has_sector-none blocks track s past);
      range = c.first_block.ensures.range;
    }
