-- The names that are tried, by their numbers.
use Rattle.std.proofs.Common.{◌≡◌, ◌≢◌, ℕ, ◌+◌, ◌%◌, ◌^◌, ◌<◌, ◌≤◌, Bool, true, List, [], ◌∷◌, ◌++◌, All, refl, sym, ap, ◌∙◌, inl, inr, arith}
use Rattle.std.specs.Prelude.{codes, decimal, if◌then◌else◌}
use Rattle.std.specs.Char.{to_ascii_lowercase}
use Rattle.std.specs.Str.{str_to_ascii_lowercase}
use Rattle.std.proofs.lemmas.Bool.{cases_eq, ne_eqb}
use Rattle.std.proofs.lemmas.Fmt.{decimal_injective, decimal_by_steps}
use Rattle.std.proofs.lemmas.List.{map-append, append_cancel_left, append_cancel_right}
use Rattle.std.proofs.lemmas.List.Elements.{All-nil, All-cons, All-push, All-head, All-tail}
use Rattle.std.proofs.lemmas.Str.Ascii.{lowercase_is}
use Rattle.host_names.specs.HostName.{is_same_name, number_mark, numbered_name}
use Rattle.host_names.proofs.SameNames.{lower_from_same, same_from_lower}

-- a digit
abbrev pub IsDigit : ℕ → Type 0
IsDigit byte = (48 ≤ byte) × (byte ≤ 57)

-- a number is written in digits
pub digits : (number : ℕ) → number < 2 ^ 64 → All IsDigit (decimal number)
digits number small =
    decimal_by_steps (λ _ bytes. All IsDigit bytes)
    (λ n below. All-cons IsDigit (48 + n) [] (omega arith, omega arith) (All-nil IsDigit))
    (λ n bytes above all. All-push IsDigit bytes (48 + n % 10) all (omega arith, omega arith))
    number small

-- digits are no letters
lower_digits : (bytes : List ℕ) → All IsDigit bytes → str_to_ascii_lowercase bytes ≡ bytes
lower_digits [] all = refl
lower_digits (byte ∷ bytes) all =
    let digit = All-head IsDigit byte bytes all in
    let itself : to_ascii_lowercase byte ≡ byte = (lowercase_is byte).1 (omega (arith, digit.1)) in
    ap (λ (b : ℕ). b ∷ str_to_ascii_lowercase bytes) itself
    ∙ ap (λ (bs : List ℕ). byte ∷ bs) (lower_digits bytes (All-tail IsDigit byte bytes all))

-- what marks the first name, and what marks another
pub first_mark : number_mark 1 ≡ []
unfolding number_mark
first_mark = refl

pub other_mark : (number : ℕ) → number ≢ 1 → number_mark number ≡ codes " (" ++ (decimal number ++ codes ")")
unfolding number_mark
other_mark number other = ap (λ (t : Bool). if t then [] else codes " (" ++ (decimal number ++ codes ")")) (ne_eqb number 1 other)

-- marks have no letters
lower_mark : (number : ℕ) → number < 2 ^ 64 → str_to_ascii_lowercase (number_mark number) ≡ number_mark number
lower_mark number small =
    elim (cases_eq number 1) [
      | inl is ↦
          let none : number_mark number ≡ [] = ap number_mark is ∙ first_mark in
          ap str_to_ascii_lowercase none ∙ sym none
      | inr other ↦
          let some = other_mark number other in
          ap str_to_ascii_lowercase some
          ∙ ap (λ (bs : List ℕ). codes " (" ++ bs) (map-append to_ascii_lowercase (decimal number) (codes ")") ∙ ap (λ (bs : List ℕ). bs ++ codes ")") (lower_digits (decimal number) (digits number small)))
          ∙ sym some
    ]

-- two marks differ
marks_differ : (m n : ℕ) → m < 2 ^ 64 → n < 2 ^ 64 → number_mark m ≡ number_mark n → m ≡ n
marks_differ m n m_small n_small same =
    elim (cases_eq m 1) [
      | inl m_one ↦ elim (cases_eq n 1) [
        | inl n_one ↦ m_one ∙ sym n_one
        | inr n_other ↦
            let apart : [] ≡ codes " (" ++ (decimal n ++ codes ")") = sym (ap number_mark m_one ∙ first_mark) ∙ same ∙ other_mark n n_other in
            absurd (cc)
      ]
      | inr m_other ↦ elim (cases_eq n 1) [
        | inl n_one ↦
            let apart : codes " (" ++ (decimal m ++ codes ")") ≡ [] = sym (other_mark m m_other) ∙ same ∙ ap number_mark n_one ∙ first_mark in
            absurd (cc)
        | inr n_other ↦
            let both : codes " (" ++ (decimal m ++ codes ")") ≡ codes " (" ++ (decimal n ++ codes ")") = sym (other_mark m m_other) ∙ same ∙ other_mark n n_other in
            decimal_injective m n m_small n_small
            (append_cancel_right (decimal m) (decimal n) (codes ")") (append_cancel_left (codes " (") (decimal m ++ codes ")") (decimal n ++ codes ")") both))
      ]
    ]

-- the small letters of a name that is tried
pub lower_numbered : (front back : List ℕ) (number : ℕ)
    → str_to_ascii_lowercase (numbered_name front back number) ≡ str_to_ascii_lowercase front ++ (str_to_ascii_lowercase (number_mark number) ++ str_to_ascii_lowercase back)
unfolding numbered_name
lower_numbered front back number =
    map-append to_ascii_lowercase front (number_mark number ++ back)
    ∙ ap (λ (bs : List ℕ). str_to_ascii_lowercase front ++ bs) (map-append to_ascii_lowercase (number_mark number) back)

-- two names that are tried in different places aren't the same
pub same_number : (front back : List ℕ) (m n : ℕ) → m < 2 ^ 64 → n < 2 ^ 64 → is_same_name (numbered_name front back m) (numbered_name front back n) ≡ true → m ≡ n
same_number front back m n m_small n_small is =
    let lower = str_to_ascii_lowercase in
    let whole = sym (lower_numbered front back m) ∙ lower_from_same (numbered_name front back m) (numbered_name front back n) is ∙ lower_numbered front back n in
    let without_front = append_cancel_left (lower front) (lower (number_mark m) ++ lower back) (lower (number_mark n) ++ lower back) whole in
    let marks = append_cancel_right (lower (number_mark m)) (lower (number_mark n)) (lower back) without_front in
    marks_differ m n m_small n_small (sym (lower_mark m m_small) ∙ marks ∙ lower_mark n n_small)

-- names with one number whose parts are the same are the same
pub same_parts : (front back other_front other_back : List ℕ) (number : ℕ) → str_to_ascii_lowercase front ≡ str_to_ascii_lowercase other_front
    → str_to_ascii_lowercase back ≡ str_to_ascii_lowercase other_back → is_same_name (numbered_name front back number) (numbered_name other_front other_back number) ≡ true
same_parts front back other_front other_back number fronts backs =
    let lower = str_to_ascii_lowercase in
    same_from_lower (numbered_name front back number) (numbered_name other_front other_back number)
    (lower_numbered front back number
    ∙ ap (λ (bs : List ℕ). bs ++ (lower (number_mark number) ++ lower back)) fronts
    ∙ ap (λ (bs : List ℕ). lower other_front ++ (lower (number_mark number) ++ bs)) backs
    ∙ sym (lower_numbered other_front other_back number))
