use Rattle.std.proofs.Common.{ℕ, nat_eq, sym, ap, ◌∙◌, arith}
use Rattle.d64_map.proofs.FreeBlocks.{contains-free_blocks, bit_decides}
use Rattle.d64_map.proofs.block_map.is_free.Goals as goal

pub returns-clause-bit : goal.returns-clause-bit
returns-clause-bit c =
    c.marks_free.ensures
    ∙ ap (λ (n : ℕ). nat_eq n 1) (c.bits_on-bits.ensures c.sector.result (omega arith))
    ∙ bit_decides c.args.image.now c.args.block c.track_no.result c.sector.result c.map_of.result.now
    c.map_of.ensures.value c.track_no.ensures c.sector.ensures.pair

pub returns-clause-member : goal.returns-clause-member
returns-clause-member c = returns-clause-bit c ∙ sym (contains-free_blocks c.args.image.now c.args.block c.requires)
