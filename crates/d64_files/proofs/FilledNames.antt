-- A name that was put into its field is read from it again.
use Rattle.std.proofs.Common.{◌≡◌, ℕ, zero, suc, ◌-◌, ◌==◌, Bool, true, not, cond, List, [], ◌∷◌, ◌++◌, length, refl, sym, ap, ◌∙◌, inl, inr, arith}
use Rattle.std.specs.Prelude.{All, Contains, replicate}
use Rattle.std.proofs.lemmas.Bool.Decides.{eqb_tells}
use Rattle.std.proofs.lemmas.List.Elements.{All-head, All-tail}
use Rattle.std.proofs.lemmas.List.Sums.{take_while-cons}
use Rattle.d64_files.specs.Name.{IsName, forbidden_in_names, filled_field, name_in}

-- a byte that a name may hold is no shifted space
pub no_filler : (byte : ℕ) → ¬ (Contains forbidden_in_names byte) → not (byte == 0xA0) ≡ true
no_filler byte allowed =
    elim (eqb_tells byte 0xA0) [
      | inl same ↦ absurd (allowed (7, omega arith, sym same.1))
      | inr other ↦ ap not other.0
    ]

-- the bytes before the fillers
before_fillers : (bytes : List ℕ) (n : ℕ) → All (λ byte. ¬ (Contains forbidden_in_names byte)) bytes → name_in (bytes ++ replicate n 0xA0) ≡ bytes
before_fillers [] zero all = refl
before_fillers [] (suc n) all = refl
before_fillers (byte ∷ bytes) n all =
    let P : ℕ → Type 0 = λ b. ¬ (Contains forbidden_in_names b) in
    take_while-cons (λ (b : ℕ). not (b == 0xA0)) byte (bytes ++ replicate n 0xA0)
    ∙ ap (λ (passes : Bool). cond passes (byte ∷ name_in (bytes ++ replicate n 0xA0)) []) (no_filler byte (All-head P byte bytes all))
    ∙ ap (λ (xs : List ℕ). byte ∷ xs) (before_fillers bytes n (All-tail P byte bytes all))

-- the name in its field
pub name_in-filled_field : (name : List ℕ) → IsName name → name_in (filled_field name) ≡ name
name_in-filled_field name named = before_fillers name (16 - length name) named.allowed
