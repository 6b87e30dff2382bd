-- What a parse of a word of digits says.
use Rattle.std.proofs.Common.{◌≡◌, ℕ, ◌<◌, ◌≤◌, ◌^◌, true, List, length, Result, Ok, Err, arith, rules}
use Rattle.std.specs.Char.{is_ascii_digit}
use Rattle.std.specs.List.{list_all}
use Rattle.std.specs.Result.{result_ok, OkIff}
use Rattle.std.specs.Str.{IsAscii}
use Rattle.std.specs.Str.Parse.{ParsesUnsigned, digits_value}
use Rattle.std.proofs.lemmas.Bool.Decides.{nat_tests}
use Rattle.std.proofs.lemmas.List.Elements.{All-weaker}
use Rattle.std.proofs.lemmas.List.Sums.{AllPass-from_list_all}
use Rattle.std.proofs.lemmas.Str.Ascii.{IsAscii-from_all}
use Rattle.std.proofs.lemmas.Str.Parse.{IsNumeralModel, numerals_by_value, parse_digits}
use Rattle.script_text.specs.Number.{number_of}

-- digits are ASCII
pub digits_ascii : (word : List ℕ) → list_all is_ascii_digit word ≡ true → IsAscii word
digits_ascii word digits =
    IsAscii-from_all word
    (All-weaker (λ b. is_ascii_digit b ≡ true) (λ b. b < 128) (λ b digit. grind (arith, nat_tests)) word (AllPass-from_list_all is_ascii_digit word digits))

-- the words of digits
digits_model : IsNumeralModel (λ ds. list_all is_ascii_digit ds ≡ true) (digits_value 10)
digits_model = numerals_by_value (λ ds. list_all is_ascii_digit ds ≡ true) (search rules)

-- the value of one to three digits, as far as it is a byte
number_by_value : {E : Type 0} (word : List ℕ) (r : Result ℕ E) → OkIff r ((0 < length word) × (digits_value 10 word < 2 ^ 8)) (digits_value 10 word) → list_all is_ascii_digit word ≡ true → 0 < length word → length word ≤ 3 → result_ok r ≡ number_of word
unfolding number_of
number_by_value word (Ok x) h digits some few = grind (arith, nat_tests)
number_by_value word (Err e) h digits some few = grind (arith, nat_tests)

-- a parse of a word of one to three digits gives its number
pub number_from_parse : {E : Type 0} (word : List ℕ) (r : Result ℕ E) → ParsesUnsigned 8 10 word r → list_all is_ascii_digit word ≡ true → 0 < length word → length word ≤ 3 → result_ok r ≡ number_of word
number_from_parse word r parsed digits some few = number_by_value word r (parse_digits digits_model 8 word r parsed digits) digits some few
