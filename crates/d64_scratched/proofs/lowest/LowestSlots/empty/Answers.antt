use Rattle.std.proofs.Common.{ℕ, ap, ◌∙◌}
use Rattle.std.specs.Prelude.{nat_lt}
use Rattle.std.proofs.lemmas.List.{get_or-replicate}
use Rattle.d64_scratched.proofs.LowestNumbers.{nothing_noted}
use Rattle.d64_scratched.proofs.lowest.LowestSlots.empty.Goals as goal

pub returns : goal.returns
returns c = λ block slot within few. ap (λ (number : ℕ). nat_lt number slot) (get_or-replicate 768 block 65535 0 within) ∙ nothing_noted slot few
