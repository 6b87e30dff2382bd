-- The parts of an input, and how it is cut at a separator.
use Rattle.std.proofs.Common.{◌≡◌, ℕ, ◌+◌, ◌<◌, ◌≤◌, false, List, [], ◌∷◌, ◌++◌, Some, None, cond, ltb, ltb-true, ltb-false, inl, inr, take, drop, length, eqb, eqb-true, eq-eqb, refl, sym, ap, subst, ◌∙◌, arith}
use Rattle.std.specs.Prelude.{All}
use Rattle.std.specs.List.{list_any, position_or_len, before_first, after_first, onto_first}
use Rattle.std.proofs.lemmas.Bool.{cases_Bool, or_parts, or_from}
use Rattle.std.proofs.lemmas.List.Folds.{list_any_none, list_any-append}
use Rattle.std.proofs.lemmas.List.Sums.{fails_before_first, passes_at_first, split_at_first}
use Rattle.std.proofs.lemmas.List.Splits.{slice_split-cons_yes, slice_split-cons_no}
use Rattle.std.proofs.lemmas.Grind.{common_steps}
use Rattle.script_text.specs.Parts.{Lacks, parts_of}

pub Lacks-append : (separator : ℕ) (front back : List ℕ) → Lacks separator front → Lacks separator back → Lacks separator (front ++ back)
Lacks-append separator front back a b =
    list_any-append (λ byte. eqb byte separator) front back
    ∙ or_from (list_any (λ byte. eqb byte separator) front) (list_any (λ byte. eqb byte separator) back) a b

-- a separator ends the first part
pub parts_of-ended : (separator : ℕ) (part more : List ℕ) → Lacks separator part → parts_of separator (part ++ separator ∷ more) ≡ part ∷ parts_of separator more
parts_of-ended separator [] more is_open = slice_split-cons_yes (λ byte. eqb byte separator) separator more (eq-eqb separator separator refl)
parts_of-ended separator (byte ∷ part) more is_open =
    let both = or_parts (eqb byte separator) (list_any (λ byte. eqb byte separator) part) is_open in
    slice_split-cons_no (λ byte. eqb byte separator) byte (part ++ separator ∷ more) both.0 ∙ ap (onto_first byte) (parts_of-ended separator part more both.1)

-- bytes without a separator are one part
pub parts_of-open : (separator : ℕ) (bytes : List ℕ) → Lacks separator bytes → parts_of separator bytes ≡ bytes ∷ []
parts_of-open separator [] is_open = refl
parts_of-open separator (byte ∷ bytes) is_open =
    let both = or_parts (eqb byte separator) (list_any (λ byte. eqb byte separator) bytes) is_open in
    slice_split-cons_no (λ byte. eqb byte separator) byte bytes both.0 ∙ ap (onto_first byte) (parts_of-open separator bytes both.1)

-- the first part of bytes that begin with these
pub record FirstPart (separator : ℕ) (begun more : List ℕ) : Type 0 where
  pub last : List ℕ
  pub others : List (List ℕ)
  pub is : parts_of separator (begun ++ more) ≡ (begun ++ last) ∷ others

first_of : (separator byte : ℕ) (more : List ℕ) → FirstPart separator [] more → FirstPart separator [] (byte ∷ more)
first_of separator byte more first = elim (cases_Bool (eqb byte separator)) [
  | inl ends ↦ record { last = []; others = parts_of separator more; is = slice_split-cons_yes (λ byte. eqb byte separator) byte more ends }
  | inr inside ↦ record {
    last = byte ∷ first.last;
    others = first.others;
    is = slice_split-cons_no (λ byte. eqb byte separator) byte more inside ∙ ap (onto_first byte) first.is;
  }
]

pub first_part : (separator : ℕ) (begun more : List ℕ) → Lacks separator begun → FirstPart separator begun more
first_part separator [] [] is_open = record { last = []; others = []; is = refl }
first_part separator [] (byte ∷ more) is_open = first_of separator byte more (first_part separator [] more refl)
first_part separator (byte ∷ begun) more is_open =
    let both = or_parts (eqb byte separator) (list_any (λ byte. eqb byte separator) begun) is_open in
    let first = first_part separator begun more both.1 in
    record {
      last = first.last;
      others = first.others;
      is = slice_split-cons_no (λ byte. eqb byte separator) byte (begun ++ more) both.0 ∙ ap (onto_first byte) first.is;
    }

-- the search for a separator
found_separator : (separator : ℕ) (bytes : List ℕ) → position_or_len (λ byte. eqb byte separator) bytes < length bytes
    → Lacks separator (before_first (λ byte. eqb byte separator) bytes)
    × (before_first (λ byte. eqb byte separator) bytes ++ separator ∷ after_first (λ byte. eqb byte separator) bytes ≡ bytes)
found_separator separator bytes below =
    let front : All (λ byte. eqb byte separator ≡ false) (before_first (λ byte. eqb byte separator) bytes) = λ k d within.
    let earlier = fails_before_first (λ byte. eqb byte separator) bytes k d (grind (arith, common_steps)) in grind (arith, common_steps) in (
      list_any_none (λ byte. eqb byte separator) (before_first (λ byte. eqb byte separator) bytes) front,
      ap (λ byte. before_first (λ byte. eqb byte separator) bytes ++ byte ∷ after_first (λ byte. eqb byte separator) bytes)
          (sym (eqb-true _ separator (passes_at_first (λ byte. eqb byte separator) bytes 0 below))) ∙ sym (split_at_first (λ byte. eqb byte separator) bytes 0 below),
    )

pub no_separator : (separator : ℕ) (bytes : List ℕ) → length bytes ≤ position_or_len (λ byte. eqb byte separator) bytes → Lacks separator bytes
no_separator separator bytes past =
    list_any_none (λ byte. eqb byte separator) bytes (λ k d within. fails_before_first (λ byte. eqb byte separator) bytes k d (omega (arith, within, past)))

-- what a search for the separator finds
pub found_at : (separator : ℕ) (bytes : List ℕ) (place : ℕ)
    → Some place ≡ cond (ltb (position_or_len (λ byte. eqb byte separator) bytes) (length bytes)) (Some (position_or_len (λ byte. eqb byte separator) bytes)) None
    → Lacks separator (take place bytes) × (take place bytes ++ separator ∷ drop (place + 1) bytes ≡ bytes)
found_at separator bytes place found =
    let first = position_or_len (λ byte. eqb byte separator) bytes in
    let Cut : ℕ → Type 0 = λ n. Lacks separator (take n bytes) × (take n bytes ++ separator ∷ drop (n + 1) bytes ≡ bytes) in
    elim (cases_Bool (ltb first (length bytes))) [
      | inl below ↦
          let same : Some place ≡ Some first = found ∙ ap (λ b. cond b (Some first) None) below in
          let at : first ≡ place = cc in
          subst Cut at (found_separator separator bytes (ltb-true first (length bytes) below))
      | inr past ↦ let never : Some place ≡ None = found ∙ ap (λ b. cond b (Some first) None) past in cc
    ]

pub found_none : (separator : ℕ) (bytes : List ℕ)
    → None ≡ cond (ltb (position_or_len (λ byte. eqb byte separator) bytes) (length bytes)) (Some (position_or_len (λ byte. eqb byte separator) bytes)) None
    → Lacks separator bytes
found_none separator bytes missing =
    let first = position_or_len (λ byte. eqb byte separator) bytes in
    elim (cases_Bool (ltb first (length bytes))) [
      | inl below ↦ let never : None ≡ Some first = missing ∙ ap (λ b. cond b (Some first) None) below in cc
      | inr past ↦ no_separator separator bytes (ltb-false first (length bytes) past)
    ]
