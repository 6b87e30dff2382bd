-- The ends of names, and where they begin.
use Rattle.std.proofs.Common.{◌≡◌, ℕ, zero, suc, ◌+◌, ◌-◌, ◌<◌, ◌≤◌, ◌&&◌, ◌++◌, Bool, true, false, not, List, [], ◌∷◌, length, drop, refl, sym, ap, ◌∙◌, inl, inr, true≢false, arith}
use Rattle.std.specs.Prelude.{nat_le}
use Rattle.std.specs.Char.{to_ascii_lowercase}
use Rattle.std.specs.List.{list_all, list_any}
use Rattle.std.specs.Str.{bytes_eq, str_to_ascii_lowercase}
use Rattle.std.proofs.Math.Seq.{drop-append_seam}
use Rattle.std.proofs.lemmas.Bool.{cases_lt, leb-true, not-true}
use Rattle.std.proofs.lemmas.List.{drop-drop, drop-map}
use Rattle.host_names.specs.declared.ending.Ending.{Ending}
use Rattle.host_names.specs.declared.ending.Ending.TheVariants.{Del, Seq, Prg, Usr, Rel, Deleted, Orphan}
use Rattle.host_names.specs.HostName.{ending_text, part_ending, tail}
use Rattle.host_names.specs.Records.{HasEndingAt}

-- a test that each end passes
pub each_tail : (P : List ℕ → Bool) → P (tail Del false) ≡ true → P (tail Del true) ≡ true → P (tail Seq false) ≡ true → P (tail Seq true) ≡ true
    → P (tail Prg false) ≡ true → P (tail Prg true) ≡ true → P (tail Usr false) ≡ true → P (tail Usr true) ≡ true → P (tail Rel false) ≡ true
    → P (tail Rel true) ≡ true → P (tail Deleted false) ≡ true → P (tail Deleted true) ≡ true → P (tail Orphan false) ≡ true → P (tail Orphan true) ≡ true
    → (ending : Ending) (is_part : Bool) → P (tail ending is_part) ≡ true
each_tail P a b c d e f g h i j k l m n Del false = a
each_tail P a b c d e f g h i j k l m n Del true = b
each_tail P a b c d e f g h i j k l m n Seq false = c
each_tail P a b c d e f g h i j k l m n Seq true = d
each_tail P a b c d e f g h i j k l m n Prg false = e
each_tail P a b c d e f g h i j k l m n Prg true = f
each_tail P a b c d e f g h i j k l m n Usr false = g
each_tail P a b c d e f g h i j k l m n Usr true = h
each_tail P a b c d e f g h i j k l m n Rel false = i
each_tail P a b c d e f g h i j k l m n Rel true = j
each_tail P a b c d e f g h i j k l m n Deleted false = k
each_tail P a b c d e f g h i j k l m n Deleted true = l
each_tail P a b c d e f g h i j k l m n Orphan false = m
each_tail P a b c d e f g h i j k l m n Orphan true = n

-- it has four bytes or more
pub long_tail : (ending : Ending) (is_part : Bool) → 4 ≤ length (tail ending is_part)
unfolding tail ending_text part_ending
long_tail ending is_part = leb-true 4 _ (each_tail (λ bytes. nat_le 4 (length bytes)) refl refl refl refl refl refl refl refl refl refl refl refl refl refl ending is_part)

-- it has no capital letters
pub lower_tail : (ending : Ending) (is_part : Bool) → str_to_ascii_lowercase (tail ending is_part) ≡ tail ending is_part
unfolding tail ending_text part_ending
lower_tail Del false = refl
lower_tail Del true = refl
lower_tail Seq false = refl
lower_tail Seq true = refl
lower_tail Prg false = refl
lower_tail Prg true = refl
lower_tail Usr false = refl
lower_tail Usr true = refl
lower_tail Rel false = refl
lower_tail Rel true = refl
lower_tail Deleted false = refl
lower_tail Deleted true = refl
lower_tail Orphan false = refl
lower_tail Orphan true = refl

-- the ends
abbrev pub tails : List (List ℕ)
tails =
    tail Del false ∷ tail Del true ∷ tail Seq false ∷ tail Seq true ∷ tail Prg false ∷ tail Prg true ∷ tail Usr false ∷ tail Usr true ∷ tail Rel false ∷ tail Rel true
    ∷ tail Deleted false ∷ tail Deleted true ∷ tail Orphan false ∷ tail Orphan true ∷ []

-- bytes are an end
abbrev pub is_tail : List ℕ → Bool
is_tail bytes = list_any (bytes_eq bytes) tails

tail_is : (ending : Ending) (is_part : Bool) → is_tail (tail ending is_part) ≡ true
unfolding tail ending_text part_ending
tail_is ending is_part = each_tail is_tail refl refl refl refl refl refl refl refl refl refl refl refl refl refl ending is_part

-- what is left of a list without its first byte, without its first two, and so on
unfoldable pub rests : List ℕ → List (List ℕ)
rests [] = []
rests (byte ∷ bytes) = bytes ∷ rests bytes

-- none of these is an end
abbrev pub is_lone : List ℕ → Bool
is_lone bytes = list_all (λ rest. not (is_tail rest)) (rests bytes)

tail_lone : (ending : Ending) (is_part : Bool) → is_lone (tail ending is_part) ≡ true
unfolding tail ending_text part_ending rests
tail_lone ending is_part = each_tail is_lone refl refl refl refl refl refl refl refl refl refl refl refl refl refl ending is_part

first_holds : (a b : Bool) → (a && b) ≡ true → a ≡ true
first_holds true b is = refl
first_holds false b is = is

second_holds : (a b : Bool) → (a && b) ≡ true → b ≡ true
second_holds true b is = is
second_holds false true is = refl
second_holds false false is = is

-- so what is left after some bytes is no end
rest_is_none : (bytes : List ℕ) (n : ℕ) → is_lone bytes ≡ true → not (is_tail (drop (suc n) bytes)) ≡ true
unfolding tail ending_text part_ending rests
rest_is_none [] n lone = refl
rest_is_none (byte ∷ bytes) zero lone = first_holds (not (is_tail bytes)) (is_lone bytes) lone
rest_is_none (byte ∷ bytes) (suc n) lone = rest_is_none bytes n (second_holds (not (is_tail bytes)) (is_lone bytes) lone)

-- one end doesn't end another one
no_end_within : (one other : Ending) (p q : Bool) (n : ℕ) → drop (suc n) (tail one p) ≡ tail other q → ⊥
no_end_within one other p q n is =
    true≢false (sym (tail_is other q) ∙ ap is_tail (sym is) ∙ not-true (is_tail (drop (suc n) (tail one p))) (rest_is_none (tail one p) n (tail_lone one p)))

-- no name with an end is one that isn't an end, and of which no rest is one
pub not_ended : (name front : List ℕ) (ending : Ending) (is_part : Bool) → is_tail name ≡ false → is_lone name ≡ true → front ++ tail ending is_part ≡ name → ⊥
not_ended name [] ending is_part none lone is = true≢false (sym (tail_is ending is_part) ∙ ap is_tail is ∙ none)
not_ended name (byte ∷ front) ending is_part none lone is =
    let end : drop (suc (length front)) name ≡ tail ending is_part = ap (drop (suc (length front))) (sym is) ∙ drop-append_seam front (tail ending is_part) in
    true≢false (sym (tail_is ending is_part) ∙ ap is_tail (sym end) ∙ not-true (is_tail (drop (suc (length front)) name)) (rest_is_none name (length front) lone))

-- the end of a name in small letters
lower_end : (name : List ℕ) (i : ℕ) (ending : Ending) (is_part : Bool) → drop i name ≡ tail ending is_part
    → drop i (str_to_ascii_lowercase name) ≡ tail ending is_part
lower_end name i ending is_part is = drop-map to_ascii_lowercase i name ∙ ap str_to_ascii_lowercase is ∙ lower_tail ending is_part

-- an end that begins later would end the other one
not_later : (name : List ℕ) (i j : ℕ) (one other : Ending) (p q : Bool) → drop i name ≡ tail one p → drop j name ≡ tail other q → i < j → ⊥
not_later name i j one other p q is js before =
    let apart : i + suc (j - i - 1) ≡ j = omega arith in
    no_end_within one other p q (j - i - 1) (ap (drop (suc (j - i - 1))) (sym is) ∙ drop-drop (suc (j - i - 1)) i name ∙ ap (λ (n : ℕ). drop n name) apart ∙ js)

-- two names that are the same have their ends in one place
pub same_ends : (one other : List ℕ) (i j : ℕ) → str_to_ascii_lowercase one ≡ str_to_ascii_lowercase other → i ≤ length one → j ≤ length other
    → HasEndingAt one i → HasEndingAt other j → i ≡ j
same_ends one other i j same i_within j_within one_ends other_ends =
    let is = lower_end one i one_ends.0 one_ends.1 one_ends.2 in
    let js : drop j (str_to_ascii_lowercase one) ≡ tail other_ends.0 other_ends.1 = ap (drop j) same ∙ lower_end other j other_ends.0 other_ends.1 other_ends.2 in
    elim (cases_lt i j) [
      | inl before ↦ absurd (not_later (str_to_ascii_lowercase one) i j one_ends.0 other_ends.0 one_ends.1 other_ends.1 is js before)
      | inr not_before ↦ elim (cases_lt j i) [
        | inl after ↦ absurd (not_later (str_to_ascii_lowercase one) j i other_ends.0 one_ends.0 other_ends.1 one_ends.1 js is after)
        | inr not_after ↦ omega arith
      ]
    ]
