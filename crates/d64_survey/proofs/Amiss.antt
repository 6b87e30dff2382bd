-- What is amiss with a dump.
use Rattle.std.proofs.Common.{◌≡◌, ℕ, ◌||◌, Bool, true, false, not, eqb, ltb, length, sym, ap, ◌∙◌}
use Rattle.d64_survey.specs.Dump.{DumpView}
use Rattle.d64_survey.specs.ReadErrors.{read_errors}
use Rattle.d64_survey.specs.Doubts.{doubts}
use Rattle.d64_survey.specs.Inspection.{unwhole_count, is_sound, is_amiss}

-- there is no read error
abbrev pub no_error : DumpView → Bool
no_error dump = eqb (length (read_errors dump)) 0

-- there is a doubt
abbrev pub is_doubted : DumpView → Bool
is_doubted dump = not (eqb (length (doubts dump.image)) 0)

-- what is amiss beside faults
abbrev pub beside_faults : DumpView → Bool
beside_faults dump = not (no_error dump) || (ltb 0 (unwhole_count dump) || is_doubted dump)

-- there is a fault
pub by_fault : (dump : DumpView) (sound : Bool) → sound ≡ is_sound dump.image → sound ≡ false → true ≡ is_amiss dump
unfolding is_amiss
by_fault dump sound is fact = sym (ap (λ (t : Bool). not t || beside_faults dump) (sym is ∙ fact))

-- there is no doubt
pub past_faults : (dump : DumpView) (sound : Bool) → sound ≡ is_sound dump.image → sound ≡ true → is_amiss dump ≡ beside_faults dump
unfolding is_amiss
past_faults dump sound is fact = ap (λ (t : Bool). not t || beside_faults dump) (sym is ∙ fact)

-- there is a read error
pub by_error : (dump : DumpView) (sound none : Bool) → sound ≡ is_sound dump.image → sound ≡ true → none ≡ no_error dump → none ≡ false
    → true ≡ is_amiss dump
by_error dump sound none is fact is_none some =
    sym (past_faults dump sound is fact ∙ ap (λ (t : Bool). not t || (ltb 0 (unwhole_count dump) || is_doubted dump)) (sym is_none ∙ some))

-- there is no doubt
pub past_errors : (dump : DumpView) (sound none : Bool) → sound ≡ is_sound dump.image → sound ≡ true → none ≡ no_error dump → none ≡ true
    → is_amiss dump ≡ (ltb 0 (unwhole_count dump) || is_doubted dump)
past_errors dump sound none is fact is_none no_error =
    past_faults dump sound is fact ∙ ap (λ (t : Bool). not t || (ltb 0 (unwhole_count dump) || is_doubted dump)) (sym is_none ∙ no_error)

-- a file is not whole
pub by_files : (dump : DumpView) (rest : Bool) (unwhole : ℕ) → is_amiss dump ≡ (ltb 0 (unwhole_count dump) || rest) → unwhole ≡ unwhole_count dump
    → ltb 0 unwhole ≡ true → true ≡ is_amiss dump
by_files dump rest unwhole past count some = sym (past ∙ ap (λ (t : Bool). t || rest) (ap (ltb 0) (sym count) ∙ some))

-- no other sign is there, so doubts decide
pub by_doubts : (dump : DumpView) (rest : Bool) (unwhole : ℕ) → is_amiss dump ≡ (ltb 0 (unwhole_count dump) || rest) → unwhole ≡ unwhole_count dump
    → ltb 0 unwhole ≡ false → rest ≡ is_amiss dump
by_doubts dump rest unwhole past count none = sym (past ∙ ap (λ (t : Bool). t || rest) (ap (ltb 0) (sym count) ∙ none))
