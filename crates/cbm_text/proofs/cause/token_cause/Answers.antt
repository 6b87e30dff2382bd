use Rattle.std.proofs.Common.{inl, inr, refl}
use Rattle.cbm_text.proofs.cause.token_cause.Goals as goal

-- the text is that of no bytes
pub returns-in-None : goal.returns-in-None
returns-in-None c = λ bytes read.
    absurd (elim c.in-Err.ensures.fault [
      | inl memory ↦ c.in-None.ensures refl memory
      | inr first ↦ c.one_outcome.ensures.no_fault bytes c.in-Err.fault read first
    ])
