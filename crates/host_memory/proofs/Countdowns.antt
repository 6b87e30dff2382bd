-- What is left of a countdown after some calls.
use Rattle.std.proofs.Common.{◌≡◌, ℕ, zero, suc, ◌+◌, ◌-◌, ◌∙◌, ◌↔◌, arith}
use Rattle.host_memory.specs.MemoryHost.{countdown_after}

-- each call takes one off
countdown_after-sub : (calls countdown : ℕ) → countdown_after calls countdown ≡ countdown - calls
countdown_after-sub zero countdown = omega arith
countdown_after-sub (suc calls) countdown = countdown_after-sub calls (countdown - 1) ∙ omega arith

-- the countdown is 1 before exactly one call, the one that it names
pub at_one_once : (calls countdown : ℕ) → (countdown_after calls countdown ≡ 1) ↔ (calls + 1 ≡ countdown)
at_one_once calls countdown =
    (λ at_one. omega (arith, countdown_after-sub calls countdown), λ named. omega (arith, countdown_after-sub calls countdown))
