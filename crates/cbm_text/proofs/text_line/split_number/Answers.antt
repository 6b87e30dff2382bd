use Rattle.std.proofs.Common.{◌≡◌, ℕ, ◌≤◌, ◌<◌, ◌^◌, List, true, refl, sym, ◌∙◌, ap, subst}
use Rattle.std.specs.List.{list_all}
use Rattle.std.specs.Char.{is_ascii_digit}
use Rattle.std.specs.Str.Parse.{digits_value}
use Rattle.cbm_text.proofs.CodesSoFar.{empty, not_empty}
use Rattle.cbm_text.proofs.TextLines.{digits_all, digits_of_line, rest_of_line, number_fits, number_too_large}
use Rattle.cbm_text.proofs.text_line.split_number.Goals as goal

pub returns-then-is_empty : goal.returns-then-is_empty
returns-then-is_empty c at =
    let digits = c.split_digits.result.0.now in
    (refl, sym (digits_of_line c.args.text.now c.after_spaces.result.now digits c.after_spaces.ensures c.split_digits.ensures.digits) ∙ empty digits c.if-is_empty.ensures)

pub value_of-requires-clause-digits : goal.value_of-requires-clause-digits
value_of-requires-clause-digits c = subst (λ (w : List ℕ). list_all is_ascii_digit w ≡ true) (sym c.split_digits.ensures.digits) (digits_all c.after_spaces.result.now)

pub returns-in-Some : goal.returns-in-Some
returns-in-Some c =
    let digits = c.split_digits.result.0.now in
    let same = digits_of_line c.args.text.now c.after_spaces.result.now digits c.after_spaces.ensures c.split_digits.ensures.digits in
    let fits = number_fits digits c.in-Some.number c.in-Some.ensures in (
      record {
        some = λ none. not_empty digits c.if-is_empty.ensures (same ∙ none);
        small = subst (λ (w : List ℕ). digits_value 10 w < 2 ^ 16) same fits.0;
      },
      fits.1 ∙ ap (λ (w : List ℕ). digits_value 10 w) same,
      c.after_space.ensures ∙ rest_of_line c.args.text.now c.after_spaces.result.now c.split_digits.result.1.now c.after_spaces.ensures c.split_digits.ensures.rest,
    )

pub returns-in-None : goal.returns-in-None
returns-in-None c at =
    let digits = c.split_digits.result.0.now in
    let same = digits_of_line c.args.text.now c.after_spaces.result.now digits c.after_spaces.ensures c.split_digits.ensures.digits in
    (refl, λ none. not_empty digits c.if-is_empty.ensures (same ∙ none), subst (λ (w : List ℕ). 2 ^ 16 ≤ digits_value 10 w) same (number_too_large digits c.in-None.ensures))
