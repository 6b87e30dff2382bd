-- Texts and their lines.
use Rattle.std.proofs.Common.{◌≡◌, ℕ, ◌<◌, ◌≤◌, ◌^◌, Bool, true, false, cond, List, [], ◌∷◌, length, drop, Some, None, Result, Ok, Err, refl, sym, ◌∙◌, ap, subst, arith, rules}
use Rattle.std.proofs.lemmas.List.Sums.{prefix_len-le-length, take_while-cons, AllPass-from_list_all}
use Rattle.std.proofs.lemmas.Bool.{ltb-true, ltb-false}
use Rattle.std.specs.Prelude.{nat_lt, not}
use Rattle.std.specs.List.{position_or_len, before_first, list_all}
use Rattle.std.specs.Char.{is_ascii_digit}
use Rattle.std.specs.Result.{result_ok, OkIff}
use Rattle.std.specs.Str.{IsAscii}
use Rattle.std.specs.Str.Parse.{ParsesUnsigned, digits_value}
use Rattle.std.proofs.lemmas.Bool.Decides.{nat_tests}
use Rattle.std.proofs.lemmas.List.Elements.{All-weaker}
use Rattle.std.proofs.lemmas.Str.Ascii.{IsAscii-from_all}
use Rattle.std.proofs.lemmas.Str.Parse.{IsNumeralModel, numerals_by_value, parse_digits}
use Rattle.cbm_text.specs.TextLine.{is_no_digit, unspaced_line, number_digits, fitting_number, without_space, rest_of}

-- ---- digits

-- the bytes before the first that is no digit are digits
pub digits_all : (text : List ℕ) → list_all is_ascii_digit (before_first is_no_digit text) ≡ true
digits_all [] = refl
digits_all (byte ∷ text) =
    subst (λ (w : List ℕ). list_all is_ascii_digit w ≡ true) (sym (take_while-cons (λ b. not (is_no_digit b)) byte text)) (of_test (is_ascii_digit byte) refl (digits_all text))
  where
    of_test : (b : Bool) → is_ascii_digit byte ≡ b → list_all is_ascii_digit (before_first is_no_digit text) ≡ true
        → list_all is_ascii_digit (cond (not (not b)) (byte ∷ before_first is_no_digit text) []) ≡ true
    of_test true at others = rw at others
    of_test false at others = refl

-- digits are ASCII
pub digits_ascii : (digits : List ℕ) → list_all is_ascii_digit digits ≡ true → IsAscii digits
digits_ascii digits all =
    IsAscii-from_all digits
    (All-weaker (λ b. is_ascii_digit b ≡ true) (λ b. b < 128) (λ b digit. grind (arith, nat_tests)) digits (AllPass-from_list_all is_ascii_digit digits all))

pub digits_model : IsNumeralModel (λ ds. list_all is_ascii_digit ds ≡ true) (digits_value 10)
digits_model = numerals_by_value (λ ds. list_all is_ascii_digit ds ≡ true) (search rules)

-- the value of digits, as far as two bytes hold it
number_by_value : {E : Type 0} (digits : List ℕ) (r : Result ℕ E) → OkIff r ((0 < length digits) × (digits_value 10 digits < 2 ^ 16)) (digits_value 10 digits) → 0 < length digits → result_ok r ≡ fitting_number digits
unfolding fitting_number
number_by_value digits (Ok x) h some = grind (arith, nat_tests)
number_by_value digits (Err e) h some = grind (arith, nat_tests)

-- a parse of digits gives their number
pub number_from_parse : {E : Type 0} (digits : List ℕ) (r : Result ℕ E) → ParsesUnsigned 16 10 digits r → list_all is_ascii_digit digits ≡ true → 0 < length digits → result_ok r ≡ fitting_number digits
number_from_parse digits r parsed all some = number_by_value digits r (parse_digits digits_model 16 digits r parsed all) some

-- the number that fits, and the one that doesn't
pub number_fits : (digits : List ℕ) (number : ℕ) → Some number ≡ fitting_number digits → (digits_value 10 digits < 2 ^ 16) × (number ≡ digits_value 10 digits)
unfolding fitting_number
number_fits digits number is = of_test (nat_lt (digits_value 10 digits) (2 ^ 16)) refl is
  where
    of_test : (b : Bool) → nat_lt (digits_value 10 digits) (2 ^ 16) ≡ b → Some number ≡ cond b (Some (digits_value 10 digits)) None → (digits_value 10 digits < 2 ^ 16) × (number ≡ digits_value 10 digits)
    of_test true at here = (ltb-true _ _ at, cc)
    of_test false at here = absurd cc

pub number_too_large : (digits : List ℕ) → None ≡ fitting_number digits → 2 ^ 16 ≤ digits_value 10 digits
unfolding fitting_number
number_too_large digits is = of_test (nat_lt (digits_value 10 digits) (2 ^ 16)) refl is
  where
    of_test : (b : Bool) → nat_lt (digits_value 10 digits) (2 ^ 16) ≡ b → None ≡ cond b (Some (digits_value 10 digits)) None → 2 ^ 16 ≤ digits_value 10 digits
    of_test true at here = absurd cc
    of_test false at here = ltb-false _ _ at

-- ---- a line's number, and what follows

-- the digits and the rest of a line, by what comes after its spaces
pub digits_of_line : (text unspaced_text digits : List ℕ) → unspaced_text ≡ unspaced_line text → digits ≡ before_first is_no_digit unspaced_text → digits ≡ number_digits text
unfolding number_digits
digits_of_line text unspaced_text digits is digits_is = digits_is ∙ ap (λ (w : List ℕ). before_first is_no_digit w) is

pub rest_of_line : (text unspaced_text rest : List ℕ) → unspaced_text ≡ unspaced_line text → rest ≡ drop (position_or_len is_no_digit unspaced_text) unspaced_text → without_space rest ≡ rest_of text
unfolding rest_of
rest_of_line text unspaced_text rest is rest_is = ap (λ (w : List ℕ). without_space w) (rest_is ∙ ap (λ (w : List ℕ). drop (position_or_len is_no_digit w) w) is)
