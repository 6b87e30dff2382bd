-- What holds of the tables, by tests of all 256 bytes.
use Rattle.std.proofs.Common.{◌≡◌, ◌≢◌, ℕ, ◌+◌, ◌-◌, ◌<◌, ◌≤◌, Bool, true, false, cond, List, [], ◌∷◌, Option, Some, None, refl, sym, ◌∙◌, subst, arith}
use Rattle.std.proofs.lemmas.Bool.{agree_below_at, eqb-true, eqb-false, ltb-true, false≢true, not-true, and_parts}
use Rattle.std.proofs.lemmas.Slice.Eq.{bytes_eq-Decides}
use Rattle.std.specs.Prelude.{nat_lt, ◌==◌, is_none, not, zero, suc, Contains}
use Rattle.std.specs.List.{list_all}
use Rattle.std.specs.Option.{option_map_or}
use Rattle.std.specs.Str.{str_to_ascii_lowercase, bytes_eq}
use Rattle.petscii.specs.ControlNames.{control_names, control_name}
use Rattle.petscii.specs.Spelling.{character, character_ranges, dollar, hex_digit, hex_name}
use Rattle.petscii.specs.TextForm.{open_brace, close_brace}

-- a test of what there is, at what is there
at_some : {A : Type 0} (test : A → Bool) (o : Option A) (x : A) → option_map_or test o true ≡ true → o ≡ Some x → test x ≡ true
at_some {A} test o x passes is = subst (λ (p : Option A). option_map_or test p true ≡ true) is passes

-- the byte of a character, by the last range that may have it
abbrev byte_by_range : ℕ → ℕ
byte_by_range c = cond (nat_lt c 65) c (cond (nat_lt c 91) (c + 128) (cond (nat_lt c 97) c (cond (nat_lt c 123) (c - 32) 255)))

-- a byte by its character
character_back : (b : ℕ) → b < 256 → (c : ℕ) → character b ≡ Some c → byte_by_range c ≡ b
unfolding character character_ranges
character_back b lt c is = eqb-true _ _ (at_some (λ x. byte_by_range x == b) (character b) c (agree_below_at (λ k. option_map_or (λ x. byte_by_range x == k) (character k) true) (λ _. true) 256 b refl lt) is)

-- no two bytes have one character
pub character_once : (a b c : ℕ) → a < 256 → b < 256 → character a ≡ Some c → character b ≡ Some c → a ≡ b
character_once a b c small_a small_b at_a at_b = sym (character_back a small_a c at_a) ∙ character_back b small_b c at_b

-- the code in the last row of a name
abbrev code_in : List (ℕ × List ℕ) → List ℕ → ℕ
code_in [] name = 0
code_in (row ∷ rows) name = cond (bytes_eq name row.1) row.0 (code_in rows name)

-- a control code by its name
control_back : (b : ℕ) → b < 256 → (name : List ℕ) → control_name b ≡ Some name → code_in control_names name ≡ b
unfolding control_name control_names
control_back b lt name is = eqb-true _ _ (at_some (λ x. code_in control_names x == b) (control_name b) name (agree_below_at (λ k. option_map_or (λ x. code_in control_names x == k) (control_name k) true) (λ _. true) 256 b refl lt) is)

-- no two control codes have one name
pub control_once : (a b : ℕ) (name : List ℕ) → a < 256 → b < 256 → control_name a ≡ Some name → control_name b ≡ Some name → a ≡ b
control_once a b name small_a small_b at_a at_b = sym (control_back a small_a name at_a) ∙ control_back b small_b name at_b

-- if the test says that there is nothing, there is nothing
none_from_test : (o : Option ℕ) → is_none o ≡ true → o ≡ None
none_from_test None h = refl
none_from_test (Some c) h = absurd (false≢true h)

-- a control code has no character
pub control_hidden : (b : ℕ) → b < 256 → (name : List ℕ) → control_name b ≡ Some name → character b ≡ None
unfolding control_name control_names character character_ranges
control_hidden b lt name is =
    let hidden : is_none (character b) ≡ true = at_some (λ x. is_none (character b)) (control_name b) name (agree_below_at (λ k. option_map_or (λ x. is_none (character k)) (control_name k) true) (λ _. true) 256 b refl lt) is in
    none_from_test (character b) hidden

-- names have no capital letters
pub control_small : (b : ℕ) → b < 256 → (name : List ℕ) → control_name b ≡ Some name → str_to_ascii_lowercase name ≡ name
unfolding control_name control_names
control_small b lt name is = (bytes_eq-Decides _ _).0 (at_some (λ x. bytes_eq (str_to_ascii_lowercase x) x) (control_name b) name (agree_below_at (λ k. option_map_or (λ x. bytes_eq (str_to_ascii_lowercase x) x) (control_name k) true) (λ _. true) 256 b refl lt) is)

-- no name begins as a value does
abbrev begins_dollar : List ℕ → Bool
begins_dollar [] = false
begins_dollar (c ∷ cs) = c == dollar

-- no control code's name begins with `$`
pub control_no_value : (b : ℕ) → b < 256 → (cs : List ℕ) → control_name b ≢ Some (dollar ∷ cs)
unfolding control_name control_names
control_no_value b lt cs is = absurd (false≢true (at_some (λ x. cond (begins_dollar x) false true) (control_name b) (dollar ∷ cs) (agree_below_at (λ k. option_map_or (λ x. cond (begins_dollar x) false true) (control_name k) true) (λ _. true) 256 b refl lt) is))

-- control codes are below $A0
pub control_low : (b : ℕ) → 160 ≤ b → b < 256 → (name : List ℕ) → control_name b ≢ Some name
unfolding control_name control_names
control_low b high lt name is =
    let low : nat_lt b 160 ≡ true = at_some (λ x. nat_lt b 160) (control_name b) name (agree_below_at (λ k. option_map_or (λ x. nat_lt k 160) (control_name k) true) (λ _. true) 256 b refl lt) is in
    let is_low : b < 160 = ltb-true b 160 low in
    absurd (omega arith)

-- ---- braces

-- no character is a `{`
pub character_no_brace : (b : ℕ) → b < 256 → (c : ℕ) → character b ≡ Some c → c ≢ open_brace
unfolding character character_ranges
character_no_brace b lt c is = eqb-false _ _ (not-true _ (at_some (λ x. not (x == open_brace)) (character b) c (agree_below_at (λ k. option_map_or (λ x. not (x == open_brace)) (character k) true) (λ _. true) 256 b refl lt) is))

-- whether a name has no `}`
abbrev has_no_close : List ℕ → Bool
has_no_close cs = list_all (λ c. not (c == close_brace)) cs

-- a name that passes the test has no `}`
no_close : (cs : List ℕ) → has_no_close cs ≡ true → ¬ (Contains cs close_brace)
no_close [] none (k, within, is) = absurd (omega arith)
no_close (c ∷ cs) none (zero, within, is) = eqb-false c close_brace (not-true _ (and_parts _ _ none).0) is
no_close (c ∷ cs) none (suc k, within, is) = no_close cs (and_parts _ _ none).1 (k, omega arith, is)

-- no control code's name has a `}`
pub control_no_close : (b : ℕ) → b < 256 → (name : List ℕ) → control_name b ≡ Some name → ¬ (Contains name close_brace)
unfolding control_name control_names
control_no_close b lt name is = no_close name (at_some has_no_close (control_name b) name (agree_below_at (λ k. option_map_or has_no_close (control_name k) true) (λ _. true) 256 b refl lt) is)

-- no value has a `}`
pub value_no_close : (b : ℕ) → b < 256 → ¬ (Contains (hex_name b) close_brace)
unfolding hex_digit
value_no_close b lt = no_close (hex_name b) (agree_below_at (λ k. has_no_close (hex_name k)) (λ _. true) 256 b refl lt)
