-- a name and the field that holds it
use Rattle.std.proofs.Common.{◌≡◌, ℕ, suc, ◌≤◌, ◌&&◌, ◌||◌, Bool, true, false, cond, not, nat_eq, List, [], ◌∷◌, length, take, get_or, refl, sym, ap, ap₂, ◌∙◌, inl, inr, arith}
use Rattle.std.specs.Prelude.{All, Contains, bytes_eq}
use Rattle.std.proofs.lemmas.Bool.{cases_Bool}
use Rattle.std.proofs.lemmas.Bool.Decides.{nat_tests}
use Rattle.std.proofs.lemmas.List.Elements.{All-head, All-tail}
use Rattle.std.proofs.lemmas.List.Sums.{take_while-cons}
use Rattle.d64_files.specs.Name.{IsName, forbidden_in_names, name_in}
use Rattle.d64_files.proofs.FilledNames.{no_filler}

-- whether a field ends at a place, or a filler is there
abbrev pub ends_at : List ℕ → ℕ → Bool
ends_at field place = nat_eq place (length field) || nat_eq (get_or field place 0) 0xA0

-- a byte that a name may hold
abbrev IsAllowed : ℕ → Type 0
IsAllowed byte = ¬ (Contains forbidden_in_names byte)

both_in_turn : (a x y : Bool) → (a && (x && y)) ≡ (x && (a && y))
both_in_turn true x y = refl
both_in_turn false true y = refl
both_in_turn false false y = refl

-- the bytes before the first filler, if the first byte is no filler
first_kept : (byte : ℕ) (field : List ℕ) → nat_eq byte 0xA0 ≡ false → name_in (byte ∷ field) ≡ byte ∷ name_in field
first_kept byte field other =
    take_while-cons (λ (b : ℕ). not (nat_eq b 0xA0)) byte field
    ∙ ap (λ (b : Bool). cond (not b) (byte ∷ name_in field) []) other

-- and if it is one
first_filler : (byte : ℕ) (field : List ℕ) → nat_eq byte 0xA0 ≡ true → name_in (byte ∷ field) ≡ []
first_filler byte field filler =
    take_while-cons (λ (b : ℕ). not (nat_eq b 0xA0)) byte field
    ∙ ap (λ (b : Bool). cond (not b) (byte ∷ name_in field) []) filler

-- a field without its first byte ends one place earlier
ends_next : (byte : ℕ) (field : List ℕ) (place : ℕ) → ends_at (byte ∷ field) (suc place) ≡ ends_at field place
ends_next byte field place =
    let long : length (byte ∷ field) ≡ suc (length field) = refl in
    let same : nat_eq (suc place) (length (byte ∷ field)) ≡ nat_eq place (length field) = grind (arith, nat_tests) in
    ap (λ (b : Bool). b || nat_eq (get_or field place 0) 0xA0) same

-- the name in a field is this one if the field begins with it and it ends there
pub called : (field name : List ℕ) → length name ≤ length field → All IsAllowed name
    → (ends_at field (length name) && bytes_eq (take (length name) field) name) ≡ bytes_eq (name_in field) name
called [] [] within allowed = refl
called (byte ∷ field) [] within allowed =
    let long : length (byte ∷ field) ≡ suc (length field) = refl in
    let more : nat_eq 0 (length (byte ∷ field)) ≡ false = grind (arith, nat_tests) in
    elim (cases_Bool (nat_eq byte 0xA0)) [
      | inl filler ↦ ap₂ (λ (x y : Bool). (x || y) && true) more filler ∙ ap (λ (xs : List ℕ). bytes_eq xs []) (sym (first_filler byte field filler))
      | inr other ↦ ap₂ (λ (x y : Bool). (x || y) && true) more other ∙ ap (λ (xs : List ℕ). bytes_eq xs []) (sym (first_kept byte field other))
    ]
called [] (letter ∷ name) within allowed = absurd (omega arith)
called (byte ∷ field) (letter ∷ name) within allowed =
    let rest = called field name (omega arith) (All-tail IsAllowed letter name allowed) in
    let letter_is : not (nat_eq letter 0xA0) ≡ true = no_filler letter (All-head IsAllowed letter name allowed) in
    elim (cases_Bool (nat_eq byte 0xA0)) [
      | inl filler ↦
          let differs : nat_eq byte letter ≡ false = grind (arith, nat_tests) in
          ap (λ (b : Bool). b && (nat_eq byte letter && bytes_eq (take (length name) field) name)) (ends_next byte field (length name))
          ∙ both_in_turn (ends_at field (length name)) (nat_eq byte letter) (bytes_eq (take (length name) field) name)
          ∙ ap (λ (b : Bool). b && (ends_at field (length name) && bytes_eq (take (length name) field) name)) differs
          ∙ ap (λ (xs : List ℕ). bytes_eq xs (letter ∷ name)) (sym (first_filler byte field filler))
      | inr other ↦
          ap (λ (b : Bool). b && (nat_eq byte letter && bytes_eq (take (length name) field) name)) (ends_next byte field (length name))
          ∙ both_in_turn (ends_at field (length name)) (nat_eq byte letter) (bytes_eq (take (length name) field) name)
          ∙ ap (λ (b : Bool). nat_eq byte letter && b) rest
          ∙ ap (λ (xs : List ℕ). bytes_eq xs (letter ∷ name)) (sym (first_kept byte field other))
    ]

-- so the test of the field of an entry says whether its name is this one
pub name_decides : (field name text bytes : List ℕ) (ends : Bool) → bytes ≡ field → length bytes ≡ 16 → text ≡ name → IsName name → ends ≡ ends_at bytes (length text)
    → (ends && bytes_eq (take (length text) bytes) text) ≡ bytes_eq (name_in field) name
name_decides field name text bytes ends value long same named is =
    let short = named.short in
    ap (λ (b : Bool). b && bytes_eq (take (length text) bytes) text) is
    ∙ ap (λ (xs : List ℕ). ends_at bytes (length xs) && bytes_eq (take (length xs) bytes) xs) same
    ∙ called bytes name (omega arith) named.allowed
    ∙ ap (λ (xs : List ℕ). bytes_eq (name_in xs) name) value
