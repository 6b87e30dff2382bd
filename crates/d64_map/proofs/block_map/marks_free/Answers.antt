use Rattle.std.proofs.Common.{ℕ, nat_eq, ap}
use Rattle.std.proofs.lemmas.Nat.Bits.{shr_and_one}
use Rattle.d64_map.proofs.block_map.marks_free.Goals as goal

pub returns : goal.returns
returns c = ap (λ (n : ℕ). nat_eq n 1) (shr_and_one c.args.bits c.args.sector)
