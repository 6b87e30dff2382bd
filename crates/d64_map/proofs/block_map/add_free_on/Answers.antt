use Rattle.std.proofs.Common.{◌≡◌, ℕ, nat_eq, ◌+◌, ◌%◌, ◌^◌, ◌&&◌, ◌||◌, Bool, ltb, bit_and, sym, ap, ap₂, ◌∙◌, arith}
use Rattle.std.specs.FinSet as set
use Rattle.std.proofs.lemmas.Nat.{and_mask}
use Rattle.d64_image.specs.declared.block.TheConstants.{BLOCKS}
use Rattle.d64_image.specs.Block.{sectors_on, first_block}
use Rattle.d64_image.specs.BlockSet.{is_given}
use Rattle.d64_image.proofs.Pairs.{pair_at-counted}
use Rattle.d64_map.proofs.FreeBlocks.{bit_decides}
use Rattle.d64_map.proofs.FreeTracks.{given_within, track_added}
use Rattle.d64_map.proofs.Maps.{sectors_few}
use Rattle.d64_map.proofs.block_map.add_free_on.Goals as goal

pub returns : goal.returns
returns c =
    let image = c.args.image.now in
    let track = c.args.track in
    let bits = c.bits_on.result in
    let few = sectors_few track in
    let is : bit_and bits c.sector_mask.result ≡ bits % 2 ^ sectors_on track = ap (bit_and bits) c.sector_mask.ensures ∙ and_mask bits (sectors_on track) in
    track_added image track bits c.args.free.now _ c.first_block.ensures.range.0 c.requires
    (λ block.
    c.add_bits.ensures block
    ∙ ap₂ (λ (first given : ℕ). set.contains c.args.free.now block || (ltb block BLOCKS && is_given first given block)) c.first_block.ensures.first is
    ∙ ap (λ (given : Bool). set.contains c.args.free.now block || given) (given_within track bits block c.first_block.ensures.range.0 c.first_block.ensures.range.1))
    (λ s held.
    let pair = pair_at-counted track s c.first_block.ensures.range.0 c.first_block.ensures.range.1 held in
    ap (λ (n : ℕ). nat_eq n 1) (c.bits_on.ensures s (omega (arith, few, held)))
    ∙ bit_decides image (first_block track + s) track s c.map_of.result.now c.map_of.ensures.value
    (sym (ap (λ (p : ℕ × ℕ). p.0) pair)) (sym (ap (λ (p : ℕ × ℕ). p.1) pair)))
