-- A dump in place of another one, by what was refused and what was filled
use Rattle.std.proofs.Common.{◌≡◌, ℕ, Bool, true, false, not, Option, Some, None, Result, Ok, Err, refl, sym, ap, ◌∙◌}
use Rattle.std.specs.Prelude.{OnOk, if◌then◌else◌, is_some}
use Rattle.d64_survey.specs.Dump.{DumpView, wrong_dump_length}
use Rattle.d64_survey.specs.declared.dump.DumpFault.{DumpFault}

-- two facts of a success make a third one
pub on_ok : (r : Result (Unit {0}) DumpFault) (A B C : Type 0) → OnOk r A → OnOk r B → (A → B → C) → OnOk r C
on_ok (Ok done) A B C a b make = make a b
on_ok (Err fault) A B C a b make = tt

-- a file that isn't bad is a G64
pub not_bad : (sound : Bool) → false ≡ not sound → sound ≡ true
not_bad true e = refl
not_bad false e = absurd (cc)

-- the fault of a G64 is that of the file
pub same_fault : (sound : Bool) (dump : DumpView) (found : Option DumpView) (n : ℕ) → (if sound then Some dump else None) ≡ found
    → (if sound then None else Some n) ≡ (if is_some found then None else Some n)
same_fault true dump found n is = ap (λ (o : Option DumpView). if is_some o then None else Some n) is
same_fault false dump found n is = ap (λ (o : Option DumpView). if is_some o then None else Some n) is

-- and its dump
pub same_filling : (r : Result (Unit {0}) DumpFault) (sound : Bool) (new dump : DumpView) (found : Option DumpView) (n : ℕ)
    → wrong_dump_length r ≡ (if sound then None else Some n) → OnOk r (new ≡ dump) → (if sound then Some dump else None) ≡ found → OnOk r (found ≡ Some new)
same_filling (Err fault) sound new dump found n refused filled is = tt
same_filling (Ok done) true new dump found n refused filled is = sym is ∙ ap (λ (d : DumpView). Some d) (sym filled)
same_filling (Ok done) false new dump found n refused filled is = absurd (cc)
