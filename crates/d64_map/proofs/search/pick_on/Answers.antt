use Rattle.std.proofs.Common.{◌≡◌, ℕ, ◌+◌, ◌-◌, sym, ap, ◌∙◌, arith}
use Rattle.std.specs.List.{range_with_len, find}
use Rattle.std.specs.FinSet as set
use Rattle.d64_image.specs.Block.{sectors_on, first_block}
use Rattle.d64_map.proofs.MemberBits.{none_on}
use Rattle.d64_map.proofs.Searching.{all_on}
use Rattle.d64_map.proofs.search.pick_on.Goals as goal

pub returns-then-member_bits-eq0 : goal.returns-then-member_bits-eq0
returns-then-member_bits-eq0 c =
    sym (none_on c.args.free.now c.args.track c.member_bits.result c.member_bits.ensures.range.0 c.member_bits.ensures.range.1 c.member_bits.ensures.bits c.if-member_bits-eq0.true)

pub returns : goal.returns
returns c =
    let e : first_block c.args.track + 0 ≡ first_block c.args.track = omega arith in
    let n : c.sector_count.result - 0 ≡ sectors_on c.args.track = omega (arith, c.sector_count.ensures.sectors) in
    c.pick_between.ensures
    ∙ ap (λ (a : ℕ). find (set.contains c.args.free.now) (range_with_len a (c.sector_count.result - 0))) e
    ∙ ap (λ (k : ℕ). find (set.contains c.args.free.now) (range_with_len (first_block c.args.track) k)) n
    ∙ ap (find (set.contains c.args.free.now)) (sym (all_on c.args.track))
