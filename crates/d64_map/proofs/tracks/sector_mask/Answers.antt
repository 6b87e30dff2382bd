use Rattle.std.proofs.Common.{ℕ, ◌-◌, ◌^◌, ◌≤◌, sym, ap, ◌∙◌, subst, arith}
use Rattle.std.proofs.lemmas.Nat.{one_shl, pow_pos}
use Rattle.d64_map.proofs.tracks.sector_mask.Goals as goal

pub overflow_sub-result : goal.overflow_sub-result
overflow_sub-result c =
    let one = one_shl c.sector_count.result 32 (omega (arith, c.sector_count.ensures.few)) in
    let some = pow_pos c.sector_count.result in
    subst (λ (n : ℕ). 1 ≤ n) (sym one) (omega arith)

pub returns : goal.returns
returns c =
    ap (λ (n : ℕ). n - 1) (one_shl c.sector_count.result 32 (omega (arith, c.sector_count.ensures.few)))
    ∙ ap (λ (n : ℕ). 2 ^ n - 1) c.sector_count.ensures.sectors
