-- Lines as they are listed, read as lines of a text.
use Rattle.std.proofs.Common.{◌≡◌, ◌≢◌, ℕ, ◌+◌, ◌-◌, ◌^◌, ◌<◌, ◌≤◌, ◌||◌, ◌&&◌, Bool, true, false, cond, not, List, [], ◌∷◌, ◌++◌, length, take, drop, get_or, take_at, drop_at, All, refl, sym, ◌∙◌, ap, subst, append_assoc, length-append, arith}
use Rattle.std.specs.Prelude.{zero, suc, ◌==◌, nat_lt, decimal, codes}
use Rattle.std.specs.List.{list_all, list_any, position_or_len, onto_first}
use Rattle.std.specs.Char.{is_ascii_digit}
use Rattle.std.specs.Io.BufRead.{ends_with_byte, strip_last}
use Rattle.std.specs.Str.Parse.{digits_value}
use Rattle.std.proofs.lemmas.Bool.{agree_below_at, and_parts, or_parts, not-true}
use Rattle.std.proofs.lemmas.Bool.Decides.{nat_tests}
use Rattle.std.proofs.lemmas.Fmt.{digits_decimal, digits_value-decimal, decimal_nonempty}
use Rattle.std.proofs.lemmas.List.{get_or_at}
use Rattle.std.proofs.lemmas.List.Elements.{All-nil, All-cons}
use Rattle.std.proofs.lemmas.List.Folds.{list_any-append}
use Rattle.petscii.specs.ControlNames.{control_names, control_name}
use Rattle.petscii.specs.Spelling.{character, character_ranges, hex_digit, spell, spelling}
use Rattle.petscii.specs.TextForm.{IsAccepted, IsTextOf}
use Rattle.petscii.proofs.Readings.{spelling_read}
use Rattle.script_text.specs.RawLines.{lines_of, is_ended, before_end, text_of, is_skipped}
use Rattle.script_text.proofs.LineCuts.{lines_of-end, lines_of-inside}
use Rattle.cbm_text.specs.Listing.{line_text}
use Rattle.cbm_text.specs.TextLine.{is_no_space, is_no_digit, unspaced_line, number_digits, line_number, without_space, rest_of}
use Rattle.script_text.specs.Words.{space}
use Rattle.cbm_text.proofs.TextLines.{digits_model}

-- ---- bytes that end no line

-- the byte ends a line, or can come before the one that does
abbrev pub breaks : ℕ → Bool
breaks byte = byte == 10 || byte == 13

-- no spelling has such a byte
spell_unbroken : (byte : ℕ) → byte < 256 → list_any breaks (spell byte) ≡ false
unfolding spell character character_ranges control_name control_names hex_digit
spell_unbroken byte small = not-true _ (agree_below_at (λ k. not (list_any breaks (spell k))) (λ _. true) 256 byte refl small)

spelling_unbroken : (bytes text : List ℕ) → IsTextOf bytes text → list_any breaks (spelling bytes) ≡ false
unfolding IsTextOf IsAccepted spelling
spelling_unbroken [] text read = refl
spelling_unbroken (byte ∷ bytes) text (rest, begins, read) =
    list_any-append breaks (spell byte) (spelling bytes)
    ∙ ap (λ (b : Bool). b || list_any breaks (spelling bytes)) (spell_unbroken byte begins.accepted.0) ∙ spelling_unbroken bytes rest read

-- the bytes of a text, and their spelling
pub small_bytes : (bytes text : List ℕ) → IsTextOf bytes text → All (λ b. b < 256) bytes
unfolding IsTextOf IsAccepted
small_bytes [] text read = All-nil (λ b. b < 256)
small_bytes (byte ∷ bytes) text (rest, begins, read) = All-cons (λ b. b < 256) byte bytes begins.accepted.0 (small_bytes bytes rest read)

pub spelled_again : (bytes text : List ℕ) → IsTextOf bytes text → IsTextOf bytes (spelling bytes)
spelled_again bytes text read = spelling_read bytes (small_bytes bytes text read)

-- a digit is not one of the bytes that matter
record IsPlainDigit (byte : ℕ) : Type 0 where
  pub no_break : breaks byte ≡ false
  pub no_space : (byte == 32) ≡ false
  pub no_mark : (byte == 59) ≡ false

plain_digit : (byte : ℕ) → is_ascii_digit byte ≡ true → IsPlainDigit byte
plain_digit byte digit =
    let low : 48 ≤ byte = grind (arith, nat_tests) in
    let high : byte ≤ 57 = grind (arith, nat_tests) in
    record { no_break = grind (arith, nat_tests); no_space = grind (arith, nat_tests); no_mark = grind (arith, nat_tests) }

digits_unbroken : (digits : List ℕ) → list_all is_ascii_digit digits ≡ true → list_any breaks digits ≡ false
digits_unbroken [] all = refl
digits_unbroken (digit ∷ digits) all =
    let parts = and_parts _ _ all in
    let plain = plain_digit digit parts.0 in
    ap (λ (b : Bool). b || list_any breaks digits) plain.no_break ∙ digits_unbroken digits parts.1

-- ---- lines

-- bytes without an LF, and then one, are a line
lines_of_line : (line rest : List ℕ) → list_any breaks line ≡ false → lines_of (line ++ 10 ∷ rest) ≡ (line ++ 10 ∷ []) ∷ lines_of rest
lines_of_line [] rest none = lines_of-end 10 rest refl
lines_of_line (byte ∷ line) rest none =
    let parts = or_parts (breaks byte) (list_any breaks line) none in
    let inside : (byte == 10) ≡ false = (or_parts (byte == 10) (byte == 13) parts.0).0 in
    lines_of-inside byte (line ++ 10 ∷ rest) inside ∙ ap (λ (lines : List (List ℕ)). onto_first byte lines) (lines_of_line line rest parts.1)

-- no place of them has a CR
no_return : (line : List ℕ) (k : ℕ) → list_any breaks line ≡ false → k < length line → (get_or line k 0 == 13) ≡ false
no_return [] k none within = absurd (omega arith)
no_return (byte ∷ line) zero none within = (or_parts (byte == 10) (byte == 13) (or_parts (breaks byte) (list_any breaks line) none).0).1
no_return (byte ∷ line) (suc k) none within = no_return line k (or_parts (breaks byte) (list_any breaks line) none).1 (omega arith)

not_returned : (line : List ℕ) → list_any breaks line ≡ false → ends_with_byte 13 line ≡ false
not_returned [] none = refl
not_returned (byte ∷ line) none =
    let last : length (byte ∷ line) - 1 < length (byte ∷ line) = omega arith in
    ap (λ (b : Bool). nat_lt 0 (length (byte ∷ line)) && b) (no_return (byte ∷ line) (length (byte ∷ line) - 1) none last) ∙ and_false (nat_lt 0 (length (byte ∷ line)))
  where
    and_false : (b : Bool) → (b && false) ≡ false
    and_false true = refl
    and_false false = refl

-- what such a line says
ended : (line : List ℕ) → is_ended (line ++ 10 ∷ []) ≡ true
ended line =
    let long : length (line ++ 10 ∷ []) ≡ length line + 1 = omega (arith, length-append line (10 ∷ [])) in
    let some : nat_lt 0 (length (line ++ 10 ∷ [])) ≡ true = grind (arith, nat_tests) in
    let last : get_or (line ++ 10 ∷ []) (length (line ++ 10 ∷ []) - 1) 0 ≡ 10 = get_or_at line 10 [] 0 (length (line ++ 10 ∷ []) - 1) (omega arith) in
    ap (λ (b : Bool). b && get_or (line ++ 10 ∷ []) (length (line ++ 10 ∷ []) - 1) 0 == 10) some ∙ ap (λ (n : ℕ). n == 10) last

text_of_line : (line : List ℕ) → list_any breaks line ≡ false → text_of (line ++ 10 ∷ []) ≡ line
text_of_line line none =
    let long : length line ≡ length (line ++ 10 ∷ []) - 1 = omega (arith, length-append line (10 ∷ [])) in
    let stripped : before_end (line ++ 10 ∷ []) ≡ line = ap (λ (b : Bool). cond b (take (length (line ++ 10 ∷ []) - 1) (line ++ 10 ∷ [])) (line ++ 10 ∷ [])) (ended line) ∙ take_at line (10 ∷ []) (length (line ++ 10 ∷ []) - 1) long in
    ap (λ (b : Bool). cond b (strip_last 13 (before_end (line ++ 10 ∷ []))) (line ++ 10 ∷ [])) (ended line) ∙ ap (λ (w : List ℕ). strip_last 13 w) stripped
    ∙ ap (λ (b : Bool). cond b (take (length line - 1) line) line) (not_returned line none)

-- ---- a number, a space, and a rest

-- a line that begins with digits
begins_unspaced : (digits rest : List ℕ) → list_all is_ascii_digit digits ≡ true → 0 < length digits → unspaced_line (digits ++ rest) ≡ digits ++ rest
unfolding unspaced_line
begins_unspaced [] rest all some = absurd (omega arith)
begins_unspaced (digit ∷ digits) rest all some =
    let plain = plain_digit digit (and_parts _ _ all).0 in
    ap (λ (b : Bool). drop (cond (not (not b)) (1 + position_or_len is_no_space (digits ++ rest)) 0) (digit ∷ (digits ++ rest))) plain.no_space

begins_kept : (digits rest : List ℕ) → list_all is_ascii_digit digits ≡ true → 0 < length digits → is_skipped (digits ++ rest) ≡ false
begins_kept [] rest all some = absurd (omega arith)
begins_kept (digit ∷ digits) rest all some = let plain = plain_digit digit (and_parts _ _ all).0 in rw plain.no_space plain.no_mark

-- the place at which the digits end
digits_end : (digits rest : List ℕ) → list_all is_ascii_digit digits ≡ true → position_or_len is_no_digit (digits ++ space ∷ rest) ≡ length digits
digits_end [] rest all = refl
digits_end (digit ∷ digits) rest all =
    let parts = and_parts (is_ascii_digit digit) (list_all is_ascii_digit digits) all in
    let behind : position_or_len is_no_digit (digits ++ space ∷ rest) ≡ length digits = digits_end digits rest parts.1 in
    let more : 1 + position_or_len is_no_digit (digits ++ space ∷ rest) ≡ length (digit ∷ digits) = omega (arith, behind) in
    ap (λ (b : Bool). cond (not (not b)) (1 + position_or_len is_no_digit (digits ++ space ∷ rest)) 0) parts.0 ∙ more

digits_read : (digits rest : List ℕ) → list_all is_ascii_digit digits ≡ true → 0 < length digits → number_digits (digits ++ space ∷ rest) ≡ digits
unfolding number_digits
digits_read digits rest all some =
    ap (λ (w : List ℕ). take (position_or_len is_no_digit w) w) (begins_unspaced digits (space ∷ rest) all some)
    ∙ take_at digits (space ∷ rest) (position_or_len is_no_digit (digits ++ space ∷ rest)) (sym (digits_end digits rest all))

rest_read : (digits rest : List ℕ) → list_all is_ascii_digit digits ≡ true → 0 < length digits → rest_of (digits ++ space ∷ rest) ≡ rest
unfolding rest_of
rest_read digits rest all some =
    ap (λ (w : List ℕ). without_space (drop (position_or_len is_no_digit w) w)) (begins_unspaced digits (space ∷ rest) all some)
    ∙ ap (λ (w : List ℕ). without_space w) (drop_at digits (space ∷ rest) (position_or_len is_no_digit (digits ++ space ∷ rest)) (sym (digits_end digits rest all)))

-- ---- a line as it is listed

-- the digits of a number are digits, and there are some
number_all : (number : ℕ) → number < 2 ^ 16 → list_all is_ascii_digit (decimal number) ≡ true
number_all number small = digits_decimal digits_model number (omega arith)

number_some : (number : ℕ) → number < 2 ^ 16 → 0 < length (decimal number)
number_some number small = decimal_nonempty number (omega arith)

-- what it says
abbrev pub line_words : ℕ → List ℕ → List ℕ
line_words number bytes = decimal number ++ space ∷ spelling bytes

joined_words : (number : ℕ) (bytes rest : List ℕ) → line_text number bytes ++ rest ≡ line_words number bytes ++ 10 ∷ rest
joined_words number bytes rest = regroup (decimal number) (spelling bytes) rest
  where
    regroup : (a b c : List ℕ) → a ++ codes " " ++ b ++ codes "\n" ++ c ≡ a ++ space ∷ b ++ 10 ∷ c
    regroup a b c = simp append_assoc

words_unbroken : (number : ℕ) (bytes text : List ℕ) → number < 2 ^ 16 → IsTextOf bytes text → list_any breaks (line_words number bytes) ≡ false
words_unbroken number bytes text small read =
    list_any-append breaks (decimal number) (space ∷ spelling bytes)
    ∙ ap (λ (b : Bool). b || list_any breaks (spelling bytes)) (digits_unbroken (decimal number) (number_all number small)) ∙ spelling_unbroken bytes text read

-- the listing of a line, read as a line of a text
pub record ReadsAsLine (number : ℕ) (bytes rest : List ℕ) : Type 0 where
  pub raw : List ℕ
  pub first : lines_of (line_text number bytes ++ rest) ≡ raw ∷ lines_of rest
  pub kept : is_skipped (text_of raw) ≡ false
  pub digits : number_digits (text_of raw) ≢ []
  pub number_is : line_number (text_of raw) ≡ number
  pub bytes_are : IsTextOf bytes (rest_of (text_of raw))

pub reads_as_line : (number : ℕ) (bytes text rest : List ℕ) → number < 2 ^ 16 → IsTextOf bytes text → ReadsAsLine number bytes rest
reads_as_line number bytes text rest small read =
    let all = number_all number small in
    let some = number_some number small in
    let unbroken = words_unbroken number bytes text small read in
    let says : text_of (line_words number bytes ++ 10 ∷ []) ≡ line_words number bytes = text_of_line (line_words number bytes) unbroken in
    let digits_are : number_digits (text_of (line_words number bytes ++ 10 ∷ [])) ≡ decimal number = ap (λ (w : List ℕ). number_digits w) says ∙ digits_read (decimal number) (spelling bytes) all some in
    let rest_is : rest_of (text_of (line_words number bytes ++ 10 ∷ [])) ≡ spelling bytes = ap (λ (w : List ℕ). rest_of w) says ∙ rest_read (decimal number) (spelling bytes) all some in
    record {
      raw = line_words number bytes ++ 10 ∷ [];
      first = ap (λ (w : List ℕ). lines_of w) (joined_words number bytes rest) ∙ lines_of_line (line_words number bytes) rest unbroken;
      kept = ap (λ (w : List ℕ). is_skipped w) says ∙ begins_kept (decimal number) (space ∷ spelling bytes) all some;
      digits = λ none. let short : length (decimal number) ≡ 0 = ap (λ (w : List ℕ). length w) (sym digits_are ∙ none) in omega (arith, some);
      number_is = ap (λ (w : List ℕ). digits_value 10 w) digits_are ∙ digits_value-decimal digits_model number (omega arith);
      bytes_are = subst (λ (w : List ℕ). IsTextOf bytes w) (sym rest_is) (spelled_again bytes text read);
    }
