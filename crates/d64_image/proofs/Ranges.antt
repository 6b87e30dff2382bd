-- ranges of numbers, one after another
use Rattle.std.proofs.Common.{◌≡◌, ℕ, suc, ◌+◌, ◌-◌, ◌<◌, ◌∷◌, ap, arith}
use Rattle.std.specs.List.{range_with_len}

-- a range that isn't empty is its first number and the range after that
pub range_next : (next end : ℕ) → next < end → range_with_len next (end - next) ≡ next ∷ range_with_len (next + 1) (end - (next + 1))
range_next next end h = let e : end - next ≡ suc (end - (next + 1)) = omega arith in ap (range_with_len next) e
