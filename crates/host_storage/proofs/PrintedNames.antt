-- No name shows a control byte, in text or in JSON.
use Rattle.std.proofs.Common.{◌≡◌, ℕ, zero, suc, ◌/◌, ◌%◌, ◌<◌, ◌≤◌, Bool, true, false, List, [], ◌∷◌, ◌++◌, take, All, ◌⊎◌, inl, inr, refl, sym, subst, arith}
use Rattle.std.specs.Prelude.{nat_lt, nat_le, ◌==◌, ◌&&◌, ◌||◌, not, if◌then◌else◌, unwrap_or, Option, Some, None, slice_index, codes}
use Rattle.std.specs.Option.{option_map_or}
use Rattle.std.specs.Int.{is_in_range}
use Rattle.std.specs.Str.Lossy.{second_byte_min, second_byte_max}
use Rattle.std.proofs.lemmas.Bool.{agree_below_at, ltb-true, ltb-false, leb-true}
use Rattle.std.proofs.lemmas.List.Elements.{All-nil, All-cons, All-append, All-from_get_or}
use Rattle.std.proofs.lemmas.List.{get_or-take, length-take}
use Rattle.petscii.specs.Spelling.{hex_digit}
use Rattle.host_storage.specs.Shown.{following_count, continues_at, is_second, character_number, is_hidden, digit_at, digit_from, hexadecimal, four_digits, is_doubled, hidden_text, shown_character, shown_byte, shown_first, shown_after, shown_name, shown_json, IsPrinted, backslash}
use Rattle.host_storage.specs.declared.medium.Medium.{Medium}
use Rattle.host_storage.specs.declared.medium.Medium.TheVariants.{Text, Json}

-- both sides of a test that passes
and_left : (a b : Bool) → (a && b) ≡ true → a ≡ true
and_left true b is = refl
and_left false b is = is

and_right : (a b : Bool) → (a && b) ≡ true → b ≡ true
and_right true b is = is
and_right false b is = absurd (cc)

-- whether a byte is printed
abbrev is_printed : ℕ → Bool
is_printed byte = nat_le 32 byte && not (byte == 127)

-- a byte that passes the test
printed_from_test : (byte : ℕ) → is_printed byte ≡ true → IsPrinted byte
printed_from_test byte passes = grind arith

-- a digit is printed
digit_is_printed : (n : ℕ) → n < 16 → IsPrinted (hex_digit n)
unfolding hex_digit
digit_is_printed n small = printed_from_test (hex_digit n) (agree_below_at (λ d. is_printed (hex_digit d)) (λ _. true) 16 n refl small)

-- the digit at a place is printed
digit_at_is_printed : (worth number : ℕ) → IsPrinted (digit_at worth number)
digit_at_is_printed worth number = digit_is_printed (number / worth % 16) (omega arith)

-- one printed byte
one : (byte : ℕ) → IsPrinted byte → All IsPrinted (byte ∷ [])
one byte is = All-cons IsPrinted byte [] is (All-nil IsPrinted)

-- printed bytes of a text
abbrev are_printed : List ℕ → Bool
are_printed [] = true
are_printed (byte ∷ bytes) = is_printed byte && are_printed bytes

-- a text that passes the test
from_test : (text : List ℕ) → are_printed text ≡ true → All IsPrinted text
from_test [] passes = All-nil IsPrinted
from_test (byte ∷ text) passes = All-cons IsPrinted byte text (printed_from_test byte (and_left (is_printed byte) (are_printed text) passes)) (from_test text (and_right (is_printed byte) (are_printed text) passes))

-- the digit at a place that is reached, if it is
digit_from_is_printed : (worth number : ℕ) → All IsPrinted (digit_from worth number)
digit_from_is_printed worth number = by_test (nat_le worth number)
  where
    by_test : (reached : Bool) → All IsPrinted (if reached then digit_at worth number ∷ [] else [])
    by_test true = one (digit_at worth number) (digit_at_is_printed worth number)
    by_test false = All-nil IsPrinted

-- a number in hexadecimal
hexadecimal_is_printed : (number : ℕ) → All IsPrinted (hexadecimal number)
unfolding hexadecimal
hexadecimal_is_printed number =
    All-append IsPrinted (digit_from 4096 number) (digit_from 256 number ++ (digit_from 16 number ++ digit_at 1 number ∷ [])) (digit_from_is_printed 4096 number)
    (All-append IsPrinted (digit_from 256 number) (digit_from 16 number ++ digit_at 1 number ∷ []) (digit_from_is_printed 256 number)
    (All-append IsPrinted (digit_from 16 number) (digit_at 1 number ∷ []) (digit_from_is_printed 16 number) (one (digit_at 1 number) (digit_at_is_printed 1 number))))

-- a number in four digits
four_digits_are_printed : (number : ℕ) → All IsPrinted (four_digits number)
unfolding four_digits
four_digits_are_printed number =
    All-cons IsPrinted (digit_at 4096 number) (digit_at 256 number ∷ digit_at 16 number ∷ digit_at 1 number ∷ []) (digit_at_is_printed 4096 number)
    (All-cons IsPrinted (digit_at 256 number) (digit_at 16 number ∷ digit_at 1 number ∷ []) (digit_at_is_printed 256 number)
    (All-cons IsPrinted (digit_at 16 number) (digit_at 1 number ∷ []) (digit_at_is_printed 16 number) (one (digit_at 1 number) (digit_at_is_printed 1 number))))

-- a hidden character by its number
hidden_text_is_printed : (medium : Medium) (number : ℕ) → All IsPrinted (hidden_text medium number)
unfolding hidden_text
hidden_text_is_printed Text number =
    All-append IsPrinted (codes "\\u{") (hexadecimal number ++ codes "}") (from_test (codes "\\u{") refl)
    (All-append IsPrinted (hexadecimal number) (codes "}") (hexadecimal_is_printed number) (from_test (codes "}") refl))
hidden_text_is_printed Json number = All-append IsPrinted (codes "\\u") (four_digits number) (from_test (codes "\\u") refl) (four_digits_are_printed number)

-- a character is printed if its bytes are, unless it is hidden
character_is_printed : (medium : Medium) (number : ℕ) (bytes : List ℕ) → (is_hidden number ≡ false → All IsPrinted bytes)
    → All IsPrinted (shown_character medium number bytes)
unfolding shown_character
character_is_printed medium number bytes plain = by_test (is_doubled medium number) (is_hidden number) plain
  where
    by_test : (doubled hidden : Bool) → (hidden ≡ false → All IsPrinted bytes)
        → All IsPrinted (if doubled then backslash ∷ backslash ∷ [] else (if hidden then hidden_text medium number else bytes))
    by_test true hidden plain = from_test (backslash ∷ backslash ∷ []) refl
    by_test false true plain = hidden_text_is_printed medium number
    by_test false false plain = plain refl

-- a byte that isn't below this is printed
high_is_printed : (byte : ℕ) → 128 ≤ byte → IsPrinted byte
high_is_printed byte high = (omega arith, λ is. omega arith)

-- a byte that begins no character
byte_is_printed : (medium : Medium) (byte : ℕ) → 128 ≤ byte → All IsPrinted (shown_byte medium byte)
unfolding shown_byte
byte_is_printed Text byte high =
    All-append IsPrinted (codes "\\x") (digit_at 16 byte ∷ digit_at 1 byte ∷ []) (from_test (codes "\\x") refl)
    (All-cons IsPrinted (digit_at 16 byte) (digit_at 1 byte ∷ []) (digit_at_is_printed 16 byte) (one (digit_at 1 byte) (digit_at_is_printed 1 byte)))
byte_is_printed Json byte high = one byte (high_is_printed byte high)

-- bytes that aren't below 128 are printed
high_are_printed : (bytes : List ℕ) → All (λ byte. 128 ≤ byte) bytes → All IsPrinted bytes
high_are_printed bytes high = λ k d within. high_is_printed _ (high k d within)

-- ---- the bytes of a character

-- a byte within a range isn't below its first one
low_of_range : (low high byte : ℕ) → is_in_range low high byte ≡ true → low ≤ byte
low_of_range low high byte within = leb-true low byte (and_left (nat_le low byte) (nat_le byte high) within)

-- no second byte is below 128
second_min_is_high : (byte : ℕ) → 128 ≤ second_byte_min byte
second_min_is_high byte = by_tests (byte == 0xE0) (byte == 0xF0)
  where
    by_tests : (a b : Bool) → 128 ≤ (if a then 0xA0 else (if b then 0x90 else 0x80))
    by_tests true b = omega arith
    by_tests false true = omega arith
    by_tests false false = omega arith

-- a second byte isn't below 128
second_is_high : (first : ℕ) (rest : List ℕ) → is_second first rest ≡ true → 128 ≤ slice_index rest 0
second_is_high first rest is =
    let low : second_byte_min first ≤ slice_index rest 0 = low_of_range (second_byte_min first) (second_byte_max first) (slice_index rest 0) is in
    let high : 128 ≤ second_byte_min first = second_min_is_high first in
    omega arith

-- a byte that continues a character isn't below 128
continuing_is_high : (rest : List ℕ) (place : ℕ) → continues_at rest place ≡ true → 128 ≤ slice_index rest place
continuing_is_high rest place is = low_of_range 0x80 0xBF (slice_index rest place) is

-- the first bytes of a list, one by one
high_in_front : (rest : List ℕ) (count : ℕ) → ((k : ℕ) → k < count → 128 ≤ slice_index rest k) → All (λ byte. 128 ≤ byte) (take count rest)
high_in_front rest count high =
    All-from_get_or (λ byte. 128 ≤ byte) (take count rest) 0
    (λ k within. subst (λ (byte : ℕ). 128 ≤ byte) (sym (get_or-take count rest k 0 (omega (arith, length-take count rest)))) (high k (omega (arith, length-take count rest))))

-- the numbers below 3
below_three : (P : ℕ → Type 0) → P 0 → P 1 → P 2 → (k : ℕ) → k < 3 → P k
below_three P a b c zero within = a
below_three P a b c (suc zero) within = b
below_three P a b c (suc (suc zero)) within = c
below_three P a b c (suc (suc (suc k))) within = absurd (omega arith)

-- the bytes of a character: one below 128, or several that are not
abbrev IsLow : ℕ → ℕ → Type 0
IsLow first count = (count ≡ 0) × (first < 128)

abbrev IsHigh : ℕ → List ℕ → ℕ → Type 0
IsHigh first rest count = (128 ≤ first) × All (λ byte. 128 ≤ byte) (take count rest)

abbrev IsEither : ℕ → List ℕ → ℕ → Type 0
IsEither first rest count = IsLow first count ⊎ IsHigh first rest count

-- the row of a table of five that is taken
pick : (a b c d : Bool) (P : ℕ → Type 0) → (a ≡ true → P 0) → (b ≡ true → P 1) → (c ≡ true → P 2) → (d ≡ true → P 3) → (count : ℕ)
    → (if a then Some 0 else (if b then Some 1 else (if c then Some 2 else (if d then Some 3 else None)))) ≡ Some count → P count
pick true b c d P p q r s count is = let same : 0 ≡ count = cc in subst P same (p refl)
pick false true c d P p q r s count is = let same : 1 ≡ count = cc in subst P same (q refl)
pick false false true d P p q r s count is = let same : 2 ≡ count = cc in subst P same (r refl)
pick false false false true P p q r s count is = let same : 3 ≡ count = cc in subst P same (s refl)
pick false false false false P p q r s count is = absurd (cc)

-- which of the two a character's bytes are
character_bytes : (first : ℕ) (rest : List ℕ) (count : ℕ) → following_count first rest ≡ Some count → IsEither first rest count
unfolding following_count
character_bytes first rest count is =
    pick (nat_lt first 0x80) (is_in_range 0xC2 0xDF first && continues_at rest 0)
    (is_in_range 0xE0 0xEF first && (is_second first rest && continues_at rest 1))
    (is_in_range 0xF0 0xF4 first && (is_second first rest && (continues_at rest 1 && continues_at rest 2)))
    (IsEither first rest)
    (λ below. inl (refl, ltb-true first 0x80 below))
    (λ two. inr (above 0xC2 0xDF (continues_at rest 0) two (omega arith), high_in_front rest 1 (λ k within. below_three (λ n. n < 1 → 128 ≤ slice_index rest n) (λ _. continuing_is_high rest 0 (and_right (is_in_range 0xC2 0xDF first) (continues_at rest 0) two)) (λ none. absurd (omega arith)) (λ none. absurd (omega arith)) k (omega arith) within)))
    (λ three.
    let both = and_right (is_in_range 0xE0 0xEF first) (is_second first rest && continues_at rest 1) three in
    let second = second_is_high first rest (and_left (is_second first rest) (continues_at rest 1) both) in
    let third = continuing_is_high rest 1 (and_right (is_second first rest) (continues_at rest 1) both) in
    inr (above 0xE0 0xEF (is_second first rest && continues_at rest 1) three (omega arith), high_in_front rest 2 (λ k within. below_three (λ n. n < 2 → 128 ≤ slice_index rest n) (λ _. second) (λ _. third) (λ none. absurd (omega arith)) k (omega arith) within)))
    (λ four.
    let all = and_right (is_in_range 0xF0 0xF4 first) (is_second first rest && (continues_at rest 1 && continues_at rest 2)) four in
    let second = second_is_high first rest (and_left (is_second first rest) (continues_at rest 1 && continues_at rest 2) all) in
    let others = and_right (is_second first rest) (continues_at rest 1 && continues_at rest 2) all in
    let third = continuing_is_high rest 1 (and_left (continues_at rest 1) (continues_at rest 2) others) in
    let fourth = continuing_is_high rest 2 (and_right (continues_at rest 1) (continues_at rest 2) others) in
    inr (above 0xF0 0xF4 (is_second first rest && (continues_at rest 1 && continues_at rest 2)) four (omega arith), high_in_front rest 3 (below_three (λ n. 128 ≤ slice_index rest n) second third fourth)))
    count is
  where
    above : (low high : ℕ) (more : Bool) → (is_in_range low high first && more) ≡ true → 128 ≤ low → 128 ≤ first
    above low high more is from =
        let least : low ≤ first = low_of_range low high first (and_left (is_in_range low high first) more is) in
        omega arith

-- a character that isn't hidden has a first byte that is printed, if that is all of it
plain_is_printed : (number : ℕ) → is_hidden number ≡ false → number < 128 → IsPrinted number
plain_is_printed number plain small =
    printed_from_test number (or_plain (is_printed number) (is_hidden number) (agree_below_at (λ n. is_printed n || is_hidden n) (λ _. true) 128 number refl small) plain)
  where
    or_plain : (a b : Bool) → (a || b) ≡ true → b ≡ false → a ≡ true
    or_plain true b either is = refl
    or_plain false b either is = absurd (cc)

-- the bytes of a character that isn't hidden
bytes_are_printed : (first : ℕ) (rest : List ℕ) (count : ℕ) → IsEither first rest count → is_hidden (character_number first count rest) ≡ false
    → All IsPrinted (first ∷ take count rest)
unfolding character_number
bytes_are_printed first rest count (inl low) plain =
    let number : character_number first 0 rest ≡ first = refl in
    let plain_first : is_hidden first ≡ false = subst (λ (n : ℕ). is_hidden (character_number first n rest) ≡ false) low.0 plain in
    subst (λ (n : ℕ). All IsPrinted (first ∷ take n rest)) (sym low.0) (one first (plain_is_printed first plain_first low.1))
bytes_are_printed first rest count (inr high) plain =
    All-cons IsPrinted first (take count rest) (high_is_printed first high.0) (high_are_printed (take count rest) high.1)

-- a character of one byte
abbrev alone : Option ℕ
alone = Some 0

-- a byte that begins no character isn't below 128
none_is_high : (first : ℕ) (rest : List ℕ) → following_count first rest ≡ None → 128 ≤ first
unfolding following_count
none_is_high first rest none = by_test (nat_lt first 0x80) _ refl none
  where
    by_test : (below : Bool) (longer : Option ℕ) → nat_lt first 0x80 ≡ below → (if below then alone else longer) ≡ None → 128 ≤ first
    by_test true longer is none = absurd (cc)
    by_test false longer is none = ltb-false first 0x80 is

-- ---- names

-- the first character, or byte
first_is_printed : (medium : Medium) (first : ℕ) (rest : List ℕ) → All IsPrinted (shown_first medium first rest)
first_is_printed medium first rest = by_count (following_count first rest) refl
  where
    by_count : (found : Option ℕ) → following_count first rest ≡ found
        → All IsPrinted (option_map_or (λ count. shown_character medium (character_number first count rest) (first ∷ take count rest)) found (shown_byte medium first))
    by_count None is = byte_is_printed medium first (none_is_high first rest is)
    by_count (Some count) is =
        character_is_printed medium (character_number first count rest) (first ∷ take count rest) (bytes_are_printed first rest count (character_bytes first rest count is))

-- a name whose first n bytes are shown already
name_is_printed : (medium : Medium) (count : ℕ) (name : List ℕ) → All IsPrinted (shown_after medium count name)
unfolding shown_after
name_is_printed medium zero [] = All-nil IsPrinted
name_is_printed medium (suc count) [] = All-nil IsPrinted
name_is_printed medium (suc count) (byte ∷ rest) = name_is_printed medium count rest
name_is_printed medium zero (byte ∷ rest) =
    All-append IsPrinted (shown_first medium byte rest) (shown_after medium (unwrap_or (following_count byte rest) 0) rest) (first_is_printed medium byte rest)
    (name_is_printed medium (unwrap_or (following_count byte rest) 0) rest)

-- a name in text and in JSON
pub names_are_printed : (name : List ℕ) → All IsPrinted (shown_name name) × All IsPrinted (shown_json name)
unfolding shown_name shown_json
names_are_printed name = (name_is_printed Text 0 name, name_is_printed Json 0 name)
