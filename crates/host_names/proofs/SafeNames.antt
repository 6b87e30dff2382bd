-- What each byte of a name is.
use Rattle.std.proofs.Common.{◌≡◌, ◌≢◌, ℕ, ◌-◌, ◌^◌, ◌<◌, ◌≤◌, Bool, true, false, not, List, [], ◌∷◌, ◌++◌, length, get_or, set, All, refl, sym, ap, subst, ◌∙◌, inl, inr, append_assoc, arith}
use Rattle.std.specs.Prelude.{◌==◌, ◌&&◌, if◌then◌else◌, nat_le, nat_lt, codes, decimal}
use Rattle.std.specs.List.{list_all}
use Rattle.std.proofs.lemmas.Bool.{cases_eq, and_parts, both_ways, ltb-true, leb-true, le-leb, not-true, agree_below_at}
use Rattle.std.proofs.lemmas.List.{length-append}
use Rattle.std.proofs.lemmas.List.Elements.{All-nil, All-cons, All-append, All-set, All-map, All-weaker}
use Rattle.host_names.specs.declared.ending.Ending.{Ending}
use Rattle.host_names.specs.HostName.{slash, underscore, full_stop, forbidden_characters, is_forbidden, allowed_name, unhidden_name, is_loose, closed_name, filled_name, is_reserved, device_name, stem, ending_text, part_ending, tail, number_mark, numbered_name}
use Rattle.host_names.specs.TakenNames.{first_free, next_name}
use Rattle.host_names.specs.Laws.{AreCounted, StaysInFolder, IsPrintableAscii, EndsWith}
use Rattle.host_names.proofs.Numbers.{IsDigit, digits, first_mark, other_mark}
use Rattle.host_names.proofs.Search.{first_free_within}
use Rattle.host_names.proofs.Tails.{each_tail, long_tail}

-- a list that passes a test
pub all_from_test : (P : ℕ → Type 0) (test : ℕ → Bool) → ((byte : ℕ) → test byte ≡ true → P byte) → (bytes : List ℕ) → list_all test bytes ≡ true → All P bytes
all_from_test P test shows [] passes = All-nil P
all_from_test P test shows (byte ∷ bytes) passes =
    let both = and_parts (test byte) (list_all test bytes) passes in
    All-cons P byte bytes (shows byte both.0) (all_from_test P test shows bytes both.1)

-- whichever of two lists it is
either : (P : ℕ → Type 0) (first : Bool) (one other : List ℕ) → All P one → All P other → All P (if first then one else other)
either P true one other a b = a
either P false one other a b = b

-- what holds of each allowed byte and of `_` holds of what a name begins with
stem_all : (P : ℕ → Type 0) (text : List ℕ) → P underscore → All P (allowed_name text) → All P (stem text)
unfolding stem
stem_all P text here all =
    let first = allowed_name text in
    let second = unhidden_name first in
    let third = closed_name second in
    let fourth = filled_name third in
    let second_all : All P second = either P (get_or first 0 0 == full_stop) (set first 0 underscore) first (All-set P first 0 underscore here all) all in
    let third_all : All P third =
    either P (is_loose (get_or second (length second - 1) 0)) (set second (length second - 1) underscore) second (All-set P second (length second - 1) underscore here second_all) second_all in
    let fourth_all : All P fourth = either P (length third == 0) (underscore ∷ []) third (All-cons P underscore [] here (All-nil P)) third_all in
    either P (is_reserved (device_name fourth)) (underscore ∷ fourth) fourth (All-cons P underscore fourth here fourth_all) fourth_all

-- what holds of digits, brackets and a space holds of marks
mark_all : (P : ℕ → Type 0) (number : ℕ) → number < 2 ^ 64 → P 32 → P 40 → P 41 → ((byte : ℕ) → IsDigit byte → P byte) → All P (number_mark number)
mark_all P number small space left right digit =
    elim (cases_eq number 1) [
      | inl is ↦ subst (λ (bytes : List ℕ). All P bytes) (sym (ap number_mark is ∙ first_mark)) (All-nil P)
      | inr other ↦
          subst (λ (bytes : List ℕ). All P bytes) (sym (other_mark number other))
          (All-cons P 32 (40 ∷ (decimal number ++ codes ")")) space
          (All-cons P 40 (decimal number ++ codes ")") left
          (All-append P (decimal number) (codes ")") (All-weaker IsDigit P digit (decimal number) (digits number small)) (All-cons P 41 [] right (All-nil P)))))
    ]

-- what holds of the parts holds of the name
next_all : (P : ℕ → Type 0) (taken : List (List ℕ)) (text : List ℕ) (ending : Ending) (is_part : Bool) → AreCounted taken → P underscore → P 32 → P 40 → P 41
    → ((byte : ℕ) → IsDigit byte → P byte) → All P (allowed_name text) → All P (tail ending is_part) → All P (next_name taken text ending is_part)
unfolding next_name numbered_name
next_all P taken text ending is_part counted here space left right digit all back_all =
    let back = tail ending is_part in
    let number = first_free taken (stem text) back in
    let within = first_free_within taken (stem text) back in
    All-append P (stem text) (number_mark number ++ back) (stem_all P text here all)
    (All-append P (number_mark number) back (mark_all P number (omega (arith, within.1, counted)) space left right digit) back_all)

-- ---- forbidden bytes

abbrev pub IsAllowed : ℕ → Type 0
IsAllowed byte = is_forbidden byte ≡ false

allowed_if : (byte : ℕ) (t : Bool) → is_forbidden byte ≡ t → IsAllowed (if t then underscore else byte)
unfolding is_forbidden forbidden_characters
allowed_if byte true is = refl
allowed_if byte false is = is

allowed_all : (text : List ℕ) → All IsAllowed (allowed_name text)
unfolding allowed_name
allowed_all text = All-map IsAllowed (λ byte. if is_forbidden byte then underscore else byte) text (λ k d within. allowed_if (get_or text k d) (is_forbidden (get_or text k d)) refl)

-- a byte that passes is allowed
abbrev is_allowed : ℕ → Bool
is_allowed byte = not (is_forbidden byte)

tail_allowed : (ending : Ending) (is_part : Bool) → All IsAllowed (tail ending is_part)
unfolding tail ending_text part_ending is_forbidden forbidden_characters
tail_allowed ending is_part =
    all_from_test IsAllowed is_allowed (λ byte passes. not-true (is_forbidden byte) passes) (tail ending is_part)
    (each_tail (λ bytes. list_all is_allowed bytes) refl refl refl refl refl refl refl refl refl refl refl refl refl refl ending is_part)

second_false : (a b : Bool) → not (a && b) ≡ true → a ≡ true → b ≡ false
second_false true true is passes = absurd (cc)
second_false true false is passes = refl
second_false false b is passes = absurd (cc)

digit_allowed : (byte : ℕ) → IsDigit byte → IsAllowed byte
unfolding is_forbidden forbidden_characters
digit_allowed byte digit =
    second_false (nat_le 48 byte) (is_forbidden byte)
    (agree_below_at (λ n. not (nat_le 48 n && is_forbidden n)) (λ _. true) 58 byte refl (omega (arith, digit.1)))
    (le-leb 48 byte digit.0)

-- each byte of a name is allowed
pub name_allowed : (taken : List (List ℕ)) (text : List ℕ) (ending : Ending) (is_part : Bool) → AreCounted taken → All IsAllowed (next_name taken text ending is_part)
unfolding is_forbidden forbidden_characters
name_allowed taken text ending is_part counted =
    next_all IsAllowed taken text ending is_part counted refl refl refl refl digit_allowed (allowed_all text) (tail_allowed ending is_part)

-- ---- printed bytes

printed_if : (byte : ℕ) (t : Bool) → IsPrintableAscii byte → IsPrintableAscii (if t then underscore else byte)
printed_if byte true is = (omega arith, omega arith)
printed_if byte false is = is

printed_all : (text : List ℕ) → All IsPrintableAscii text → All IsPrintableAscii (allowed_name text)
unfolding allowed_name
printed_all text all =
    All-map IsPrintableAscii (λ byte. if is_forbidden byte then underscore else byte) text
    (λ k d within. printed_if (get_or text k d) (is_forbidden (get_or text k d)) (all k d within))

abbrev is_printed : ℕ → Bool
is_printed byte = nat_le 32 byte && nat_lt byte 127

printed_from_test : (byte : ℕ) → is_printed byte ≡ true → IsPrintableAscii byte
printed_from_test byte passes =
    let both = and_parts (nat_le 32 byte) (nat_lt byte 127) passes in
    (leb-true 32 byte both.0, ltb-true byte 127 both.1)

tail_printed : (ending : Ending) (is_part : Bool) → All IsPrintableAscii (tail ending is_part)
unfolding tail ending_text part_ending
tail_printed ending is_part =
    all_from_test IsPrintableAscii is_printed printed_from_test (tail ending is_part)
    (each_tail (λ bytes. list_all is_printed bytes) refl refl refl refl refl refl refl refl refl refl refl refl refl refl ending is_part)

-- each byte of the name of a printed text is printed
pub name_printed : (taken : List (List ℕ)) (text : List ℕ) (ending : Ending) (is_part : Bool) → AreCounted taken → All IsPrintableAscii text
    → All IsPrintableAscii (next_name taken text ending is_part)
name_printed taken text ending is_part counted all =
    next_all IsPrintableAscii taken text ending is_part counted (omega arith, omega arith) (omega arith, omega arith) (omega arith, omega arith) (omega arith, omega arith)
    (λ byte digit. (omega (arith, digit.0), omega (arith, digit.1))) (printed_all text all) (tail_printed ending is_part)

-- ---- names in their folder

-- an allowed byte is no `/`
not_slash : (byte : ℕ) → IsAllowed byte → byte ≢ slash
unfolding is_forbidden forbidden_characters
not_slash byte is same = both_ways (is_forbidden byte) is (ap is_forbidden same)

-- a long name without a `/`
pub stays_from_length : (name : List ℕ) → 3 ≤ length name → All (λ byte. byte ≢ slash) name → StaysInFolder name
stays_from_length name long none = record {
  some = λ is. omega (arith, ap length is);
  not_here = λ is. let short : length name ≡ 1 = ap length is in omega arith;
  not_above = λ is. let short : length name ≡ 2 = ap length is in omega arith;
  no_slash = none;
}

-- a name ends with its end
pub name_ends : (taken : List (List ℕ)) (text : List ℕ) (ending : Ending) (is_part : Bool) → EndsWith (next_name taken text ending is_part) (tail ending is_part)
unfolding next_name numbered_name
name_ends taken text ending is_part =
    let back = tail ending is_part in
    let number = first_free taken (stem text) back in
    (stem text ++ number_mark number, sym (append_assoc (stem text) (number_mark number) back))

pub name_stays : (taken : List (List ℕ)) (text : List ℕ) (ending : Ending) (is_part : Bool) → AreCounted taken → StaysInFolder (next_name taken text ending is_part)
name_stays taken text ending is_part counted =
    let name = next_name taken text ending is_part in
    let ends = name_ends taken text ending is_part in
    stays_from_length name (omega (arith, long_tail ending is_part, ap length ends.1, length-append ends.0 (tail ending is_part)))
    (All-weaker IsAllowed (λ byte. byte ≢ slash) not_slash name (name_allowed taken text ending is_part counted))
