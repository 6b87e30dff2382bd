-- What a byte is spelled as, and which units are accepted for it.
use Rattle.std.proofs.Common.{◌≡◌, ◌≢◌, ℕ, ◌+◌, ◌*◌, ◌<◌, ◌/◌, ◌%◌, ◌⊎◌, List, [], ◌∷◌, ◌++◌, length, Contains, Option, Some, None, refl, sym, ◌∙◌, ap, subst, inl, inr, arith}
use Rattle.std.proofs.lemmas.List.{append_cancel_right, length-append, map-append}
use Rattle.std.specs.Option.{option_map_or}
use Rattle.std.specs.Char.{to_ascii_lowercase}
use Rattle.std.specs.Str.{str_to_ascii_lowercase}
use Rattle.petscii.specs.ControlNames.{control_name}
use Rattle.petscii.specs.Spelling.{character, spell, braced_name, dollar, hex_digit, hex_name}
use Rattle.petscii.specs.TextForm.{open_brace, close_brace, IsUnit, IsAccepted, Names}
use Rattle.petscii.specs.TextFault.{IsUnknown}
use Rattle.petscii.proofs.Digits.{digit_once, digit_small}
use Rattle.petscii.proofs.Tables.{character_once, control_once, control_hidden, control_small, control_no_value, character_no_brace, control_no_close, value_no_close}

-- ---- the spelling of a byte

-- a byte with a character is spelled by it
pub spell_character : (b c : ℕ) → character b ≡ Some c → spell b ≡ c ∷ []
unfolding spell
spell_character b c is = ap (λ (o : Option ℕ). option_map_or (λ x. x ∷ []) o (braced_name (option_map_or (λ name. name) (control_name b) (hex_name b)))) is

-- a control code is spelled by its name
pub spell_control : (b : ℕ) (name : List ℕ) → b < 256 → control_name b ≡ Some name → spell b ≡ braced_name name
unfolding spell
spell_control b name small is =
    ap (λ (o : Option ℕ). option_map_or (λ x. x ∷ []) o (braced_name (option_map_or (λ name. name) (control_name b) (hex_name b)))) (control_hidden b small name is)
    ∙ ap (λ (o : Option (List ℕ)). braced_name (option_map_or (λ name. name) o (hex_name b))) is

-- a byte with neither is spelled by its value
pub spell_value : (b : ℕ) → character b ≡ None → control_name b ≡ None → spell b ≡ braced_name (hex_name b)
unfolding spell
spell_value b hidden unnamed =
    ap (λ (o : Option ℕ). option_map_or (λ x. x ∷ []) o (braced_name (option_map_or (λ name. name) (control_name b) (hex_name b)))) hidden
    ∙ ap (λ (o : Option (List ℕ)). braced_name (option_map_or (λ name. name) o (hex_name b))) unnamed

-- the unit is the byte's character, or a name of the byte in braces
abbrev pub HasForm : ℕ → List ℕ → Type 0
HasForm b unit = ((c : ℕ) × (character b ≡ Some c) × (unit ≡ c ∷ [])) ⊎ ((name : List ℕ) × Names name b × (unit ≡ braced_name name))

-- the form of a spelling, by what the tables say of the byte
spell_form_from : (b : ℕ) → b < 256 → (o : Option ℕ) → character b ≡ o → (p : Option (List ℕ)) → control_name b ≡ p → HasForm b (spell b)
unfolding Names
spell_form_from b small (Some c) is p named_by = inl (c, is, spell_character b c is)
spell_form_from b small None is (Some name) named_by = inr (name, (small, inl named_by), spell_control b name small named_by)
spell_form_from b small None is None named_by = inr (hex_name b, (small, inr refl), spell_value b is named_by)

-- each spelling has one of the forms
pub spell_form : (b : ℕ) → b < 256 → HasForm b (spell b)
spell_form b small = spell_form_from b small (character b) refl (control_name b) refl

-- ---- braces and small letters

-- braces round two names make two texts
pub braced_once : (a b : List ℕ) → braced_name a ≡ braced_name b → a ≡ b
braced_once a b same =
    let tails : a ++ close_brace ∷ [] ≡ b ++ close_brace ∷ [] = cc in
    append_cancel_right a b (close_brace ∷ []) tails

-- a name in braces is no single byte
pub braced_not_one : (name : List ℕ) (c : ℕ) → braced_name name ≢ c ∷ []
braced_not_one name c same = absurd (omega (arith, ap length same, length-append name (close_brace ∷ [])))

-- braces have no capital letters
pub small_braced : (name : List ℕ) → str_to_ascii_lowercase (braced_name name) ≡ braced_name (str_to_ascii_lowercase name)
small_braced name = ap (λ (cs : List ℕ). open_brace ∷ cs) (map-append to_ascii_lowercase name (close_brace ∷ []))

-- a byte's name has no capital letters
pub small_name : (name : List ℕ) (b : ℕ) → Names name b → str_to_ascii_lowercase name ≡ name
unfolding Names
small_name name b (small, inl named_by) = control_small b small name named_by
small_name name b (small, inr is) =
    subst (λ (cs : List ℕ). str_to_ascii_lowercase cs ≡ cs) is (rw (digit_small (b / 16) (omega arith), digit_small (b % 16) (omega arith)) refl)

-- no two bytes have one value
names_value_once : (a b : ℕ) → a < 256 → b < 256 → hex_name a ≡ hex_name b → a ≡ b
names_value_once a b small_a small_b same =
    let high : hex_digit (a / 16) ≡ hex_digit (b / 16) = cc in
    let low : hex_digit (a % 16) ≡ hex_digit (b % 16) = cc in
    let highs : a / 16 ≡ b / 16 = digit_once (a / 16) (b / 16) (omega arith) (omega arith) high in
    let lows : a % 16 ≡ b % 16 = digit_once (a % 16) (b % 16) (omega arith) (omega arith) low in
    omega arith

-- a control code's name is no value
names_apart : (a b : ℕ) (name : List ℕ) → a < 256 → control_name a ≡ Some name → hex_name b ≢ name
names_apart a b name small is same = control_no_value a small (hex_digit (b / 16) ∷ hex_digit (b % 16) ∷ []) (is ∙ ap (λ (n : List ℕ). Some n) (sym same))

-- no two bytes have one name, by either table
pub names_once : (a b : ℕ) (name : List ℕ) → Names name a → Names name b → a ≡ b
unfolding Names
names_once a b name (small_a, inl at_a) (small_b, inl at_b) = control_once a b name small_a small_b at_a at_b
names_once a b name (small_a, inl at_a) (small_b, inr at_b) = absurd (names_apart a b name small_a at_a at_b)
names_once a b name (small_a, inr at_a) (small_b, inl at_b) = absurd (names_apart b a name small_b at_b at_a)
names_once a b name (small_a, inr at_a) (small_b, inr at_b) = names_value_once a b small_a small_b (at_a ∙ sym at_b)

-- ---- what is accepted

-- the unit is the byte's character, or a name of the byte in braces, in either case
abbrev pub HasAcceptedForm : ℕ → List ℕ → Type 0
HasAcceptedForm b unit = ((c : ℕ) × (character b ≡ Some c) × (unit ≡ c ∷ [])) ⊎ ((name : List ℕ) × Names (str_to_ascii_lowercase name) b × (unit ≡ braced_name name))

-- a unit that is a spelling has an accepted form
form_of_spelling : (b : ℕ) (unit : List ℕ) → unit ≡ spell b → HasForm b (spell b) → HasAcceptedForm b unit
form_of_spelling b unit same (inl (c, is, spelled)) = inl (c, is, same ∙ spelled)
form_of_spelling b unit same (inr (name, names, spelled)) = inr (name, subst (λ (cs : List ℕ). Names cs b) (sym (small_name name b names)) names, same ∙ spelled)

-- a name that is a spelling except for its capitals names the byte
form_of_capitals : (b : ℕ) (name : List ℕ) → braced_name (str_to_ascii_lowercase name) ≡ spell b → HasForm b (spell b) → Names (str_to_ascii_lowercase name) b
form_of_capitals b name same (inl (c, is, spelled)) = absurd (braced_not_one (str_to_ascii_lowercase name) c (same ∙ spelled))
form_of_capitals b name same (inr (known, names, spelled)) = subst (λ (cs : List ℕ). Names cs b) (sym (braced_once (str_to_ascii_lowercase name) known (same ∙ spelled))) names

-- a unit in braces in small letters
small_unit : (name unit : List ℕ) → unit ≡ braced_name name → str_to_ascii_lowercase unit ≡ braced_name (str_to_ascii_lowercase name)
small_unit name unit is = ap str_to_ascii_lowercase is ∙ small_braced name

-- what is accepted has an accepted form
pub accepted_form : (b : ℕ) (unit : List ℕ) → IsAccepted b unit → HasAcceptedForm b unit
unfolding IsAccepted Names
accepted_form b unit (small, inl same) = form_of_spelling b unit same (spell_form b small)
accepted_form b unit (small, inr (is_braced, inl same)) =
    inr (is_braced.name, form_of_capitals b is_braced.name (sym (small_unit is_braced.name unit is_braced.is) ∙ same) (spell_form b small), is_braced.is)
accepted_form b unit (small, inr (is_braced, inr same)) =
    let value : str_to_ascii_lowercase is_braced.name ≡ hex_name b = braced_once (str_to_ascii_lowercase is_braced.name) (hex_name b) (sym (small_unit is_braced.name unit is_braced.is) ∙ same) in
    inr (is_braced.name, (small, inr (sym value)), is_braced.is)

-- a byte's character is accepted for it
pub accepted_character : (b c : ℕ) → b < 256 → character b ≡ Some c → IsAccepted b (c ∷ [])
unfolding IsAccepted
accepted_character b c small is = (small, inl (sym (spell_character b c is)))

-- a byte's name in braces is accepted for it, in either case
pub accepted_name : (b : ℕ) (name : List ℕ) → ¬ (Contains name close_brace) → Names (str_to_ascii_lowercase name) b → IsAccepted b (braced_name name)
unfolding IsAccepted Names
accepted_name b name next (small, inl named_by) =
    (small, inr (record { name = name; is = refl; next = next }, inl (small_braced name ∙ sym (spell_control b (str_to_ascii_lowercase name) small named_by))))
accepted_name b name next (small, inr is) =
    (small, inr (record { name = name; is = refl; next = next }, inr (small_braced name ∙ ap (λ (cs : List ℕ). braced_name cs) (sym is))))

-- what is no byte's character stands for no byte
pub unknown_character : (c : ℕ) → ((b : ℕ) → character b ≢ Some c) → c ≢ open_brace → IsUnknown (c ∷ [])
unknown_character c hidden no_brace b accepted = elim (accepted_form b (c ∷ []) accepted) [
  | inl (shown, is, same) ↦ hidden b (subst (λ (x : ℕ). character b ≡ Some x) (cc) is)
  | inr (name, names, same) ↦ no_brace cc
]

-- what is no byte's name stands for no byte in braces
pub unknown_name : (name : List ℕ) → ((b : ℕ) → ¬ (Names (str_to_ascii_lowercase name) b)) → IsUnknown (braced_name name)
unknown_name name none b accepted = elim (accepted_form b (braced_name name) accepted) [
  | inl (shown, is, same) ↦ braced_not_one name shown same
  | inr (other, names, same) ↦ none b (subst (λ (cs : List ℕ). Names (str_to_ascii_lowercase cs) b) (sym (braced_once name other same)) names)
]

-- two bytes with one accepted form are one
once_by_form : (a b : ℕ) (unit : List ℕ) → a < 256 → b < 256 → HasAcceptedForm a unit → HasAcceptedForm b unit → a ≡ b
once_by_form a b unit small_a small_b (inl (c, is_c, one)) (inl (d, is_d, other)) =
    character_once a b c small_a small_b is_c (subst (λ (x : ℕ). character b ≡ Some x) (cc) is_d)
once_by_form a b unit small_a small_b (inl (c, is_c, one)) (inr (name, names, other)) = absurd (braced_not_one name c (sym other ∙ one))
once_by_form a b unit small_a small_b (inr (name, names, other)) (inl (c, is_c, one)) = absurd (braced_not_one name c (sym other ∙ one))
once_by_form a b unit small_a small_b (inr (x, at_a, one)) (inr (y, at_b, other)) =
    names_once a b (str_to_ascii_lowercase x) at_a (subst (λ (cs : List ℕ). Names (str_to_ascii_lowercase cs) b) (sym (braced_once x y (sym one ∙ other))) at_b)

-- a unit stands for at most one byte
pub accepted_once : (a b : ℕ) (unit : List ℕ) → IsAccepted a unit → IsAccepted b unit → a ≡ b
unfolding IsAccepted
accepted_once a b unit at_a at_b = once_by_form a b unit at_a.0 at_b.0 (accepted_form a unit at_a) (accepted_form b unit at_b)

-- ---- a spelling as a unit

-- a byte's spelling is accepted for it
pub spell_accepted : (b : ℕ) → b < 256 → IsAccepted b (spell b)
unfolding IsAccepted
spell_accepted b small = (small, inl refl)

-- no name of a byte has a `}`
names_no_close : (name : List ℕ) (b : ℕ) → Names name b → ¬ (Contains name close_brace)
unfolding Names
names_no_close name b (small, inl named_by) = control_no_close b small name named_by
names_no_close name b (small, inr is) = subst (λ (cs : List ℕ). ¬ (Contains cs close_brace)) is (value_no_close b small)

-- each form is a unit
form_unit : (b : ℕ) (unit : List ℕ) → b < 256 → HasForm b unit → IsUnit unit
form_unit b unit small (inl (c, is, same)) = inl (record { byte = c; is = same; no_brace = character_no_brace b small c is })
form_unit b unit small (inr (name, names, same)) = inr (record { name = name; is = same; next = names_no_close name b names })

-- a byte's spelling is a unit
pub spell_unit : (b : ℕ) → b < 256 → IsUnit (spell b)
spell_unit b small = form_unit b (spell b) small (spell_form b small)

-- ---- a value's name

-- two digits name the byte of their value
pub digits_name : (x y h l : ℕ) → h < 16 → l < 16 → x ≡ hex_digit h → y ≡ hex_digit l → Names (dollar ∷ x ∷ y ∷ []) (h * 16 + l)
unfolding Names
digits_name x y h l small_h small_l is_x is_y =
    let high : (h * 16 + l) / 16 ≡ h = omega arith in
    let low : (h * 16 + l) % 16 ≡ l = omega arith in
    (omega arith, inr (rw (high, low, is_x, is_y) refl))

-- what is no digit names nothing
pub no_high_digit : (x y : ℕ) → ((n : ℕ) → n < 16 → x ≢ hex_digit n) → (b : ℕ) → ¬ (Names (dollar ∷ x ∷ y ∷ []) b)
unfolding Names
no_high_digit x y none b (small, inl named_by) = control_no_value b small (x ∷ y ∷ []) named_by
no_high_digit x y none b (small, inr is) = none (b / 16) (omega arith) cc

-- so does a last digit that is none
pub no_low_digit : (x y : ℕ) → ((n : ℕ) → n < 16 → y ≢ hex_digit n) → (b : ℕ) → ¬ (Names (dollar ∷ x ∷ y ∷ []) b)
unfolding Names
no_low_digit x y none b (small, inl named_by) = control_no_value b small (x ∷ y ∷ []) named_by
no_low_digit x y none b (small, inr is) = none (b % 16) (omega arith) cc
