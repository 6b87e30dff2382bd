-- A text begins with at most one unit.
use Rattle.std.proofs.Common.{◌≡◌, ◌≢◌, ℕ, suc, ◌+◌, ◌<◌, ◌≤◌, List, [], ◌∷◌, ◌++◌, length, get_or, Contains, refl, sym, ◌∙◌, ap, subst, inl, inr, append_assoc, arith}
use Rattle.std.proofs.lemmas.List.Elements.{Contains-append_right}
use Rattle.std.proofs.lemmas.List.{take-append-drop, drop_more, length-take, get_or-take}
use Rattle.std.proofs.lemmas.List.Quantifiers.{position-Some}
use Rattle.std.proofs.lemmas.Bool.{eqb-true, eqb-false, ltb-false}
use Rattle.std.proofs.lemmas.List.Sums.{fails_before_first}
use Rattle.std.specs.List.{position_or_len}
use Rattle.std.specs.Prelude.{◌==◌, nat_lt, position, take, drop, Bool, true, false, cond, Some, None}
use Rattle.std.specs.Str.{str_to_ascii_lowercase}
use Rattle.petscii.specs.Spelling.{braced_name}
use Rattle.petscii.specs.TextForm.{open_brace, close_brace, IsUnit, IsAccepted, Names, BeginsWith}
use Rattle.petscii.specs.TextFault.{IsUnknown, BeginsUnknownName, BeginsFault}
use Rattle.petscii.specs.declared.fault.TextFault.{TextFault}
use Rattle.petscii.specs.declared.fault.TextFault.TheVariants.{UnknownName, OpenBrace, BadByte, Memory}
use Rattle.petscii.proofs.UnitForms.{accepted_once, accepted_name, unknown_name}

-- ---- the next `}`

-- a list has its first element
head_in : (x : ℕ) (xs : List ℕ) (y : ℕ) → x ≡ y → Contains (x ∷ xs) y
head_in x xs y same = (0, omega (arith), same)

-- a list has what its rest has
tail_in : (x : ℕ) (xs : List ℕ) (y : ℕ) → Contains xs y → Contains (x ∷ xs) y
tail_in x xs y (k, within, is) = (suc k, omega arith, is)

-- a closed name has a `}` in its text
pub close_in : (name rest : List ℕ) → Contains (name ++ close_brace ∷ rest) close_brace
close_in name rest = Contains-append_right name (close_brace ∷ rest) close_brace (head_in close_brace rest close_brace refl)

-- the texts up to the next `}` and after it
next_once : (a b x y : List ℕ) → ¬ (Contains a close_brace) → ¬ (Contains b close_brace) → a ++ close_brace ∷ x ≡ b ++ close_brace ∷ y → (a ≡ b) × (x ≡ y)
next_once [] [] x y no_a no_b same = (refl, cc)
next_once [] (c ∷ b) x y no_a no_b same = absurd (no_b (head_in c b close_brace cc))
next_once (c ∷ a) [] x y no_a no_b same = absurd (no_a (head_in c a close_brace cc))
next_once (c ∷ a) (d ∷ b) x y no_a no_b same =
    let tails : a ++ close_brace ∷ x ≡ b ++ close_brace ∷ y = cc in
    let heads : c ≡ d = cc in
    let rest = next_once a b x y (λ h. no_a (tail_in c a close_brace h)) (λ h. no_b (tail_in d b close_brace h)) tails in
    (cc (rest.0), rest.1)

-- ---- one unit

-- the same unit, and the same rest
abbrev SameParts : List ℕ → List ℕ → List ℕ → List ℕ → Type 0
SameParts u v x y = (u ≡ v) × (x ≡ y)

-- a text that begins with a name in braces
pub braced_joined : (name x : List ℕ) → braced_name name ++ x ≡ open_brace ∷ (name ++ close_brace ∷ x)
braced_joined name x = ap (λ (cs : List ℕ). open_brace ∷ cs) (append_assoc name (close_brace ∷ []) x)

-- a text begins with at most one unit
pub unit_once : (u v x y : List ℕ) → IsUnit u → IsUnit v → u ++ x ≡ v ++ y → SameParts u v x y
unit_once u v x y (inl one) (inl other) same =
    let joined : one.byte ∷ x ≡ other.byte ∷ y = ap (λ (w : List ℕ). w ++ x) (sym one.is) ∙ same ∙ ap (λ (w : List ℕ). w ++ y) other.is in
    let bytes : one.byte ≡ other.byte = cc in
    (one.is ∙ ap (λ (c : ℕ). c ∷ []) bytes ∙ sym other.is, cc)
unit_once u v x y (inl one) (inr other) same =
    let joined : one.byte ∷ x ≡ open_brace ∷ (other.name ++ close_brace ∷ y) = ap (λ (w : List ℕ). w ++ x) (sym one.is) ∙ same ∙ ap (λ (w : List ℕ). w ++ y) other.is ∙ braced_joined other.name y in
    absurd (one.no_brace cc)
unit_once u v x y (inr one) (inl other) same =
    let joined : open_brace ∷ (one.name ++ close_brace ∷ x) ≡ other.byte ∷ y = sym (ap (λ (w : List ℕ). w ++ x) one.is ∙ braced_joined one.name x) ∙ same ∙ ap (λ (w : List ℕ). w ++ y) other.is in
    absurd (other.no_brace (sym cc))
unit_once u v x y (inr one) (inr other) same =
    let joined : open_brace ∷ (one.name ++ close_brace ∷ x) ≡ open_brace ∷ (other.name ++ close_brace ∷ y) = sym (ap (λ (w : List ℕ). w ++ x) one.is ∙ braced_joined one.name x) ∙ same ∙ ap (λ (w : List ℕ). w ++ y) other.is ∙ braced_joined other.name y in
    let tails : one.name ++ close_brace ∷ x ≡ other.name ++ close_brace ∷ y = cc in
    let parts = next_once one.name other.name x y one.next other.next tails in
    (one.is ∙ ap (λ (w : List ℕ). braced_name w) parts.0 ∙ sym other.is, parts.1)

-- a text begins with one byte at most
pub begins_once : (text : List ℕ) (a b : ℕ) (x y : List ℕ) → BeginsWith text a x → BeginsWith text b y → (a ≡ b) × (x ≡ y)
begins_once text a b x y one other =
    let parts = unit_once one.unit other.unit x y one.is_unit other.is_unit (sym one.joined ∙ other.joined) in
    (accepted_once a b one.unit one.accepted (subst (λ (w : List ℕ). IsAccepted b w) (sym parts.0) other.accepted), parts.1)

-- a unit is not empty
unit_not_empty : (u x : List ℕ) → IsUnit u → [] ≢ u ++ x
unit_not_empty u x (inl one) same = let joined : [] ≡ one.byte ∷ x = same ∙ ap (λ (w : List ℕ). w ++ x) one.is in absurd cc
unit_not_empty u x (inr one) same = let joined : [] ≡ open_brace ∷ (one.name ++ close_brace ∷ x) = same ∙ ap (λ (w : List ℕ). w ++ x) one.is ∙ braced_joined one.name x in absurd cc

-- ---- if no unit goes on

-- the text begins with no byte
abbrev pub IsStuck : List ℕ → Type 0
IsStuck text = (b : ℕ) (rest : List ℕ) → ¬ (BeginsWith text b rest)

-- nothing begins at the end of a text
pub stuck_end : IsStuck []
stuck_end b rest begins = unit_not_empty begins.unit rest begins.is_unit begins.joined

-- a unit that stands for no byte does not go on
stuck_unknown : (unit rest : List ℕ) → IsUnit unit → IsUnknown unit → IsStuck (unit ++ rest)
stuck_unknown unit rest is_unit unknown b after begins =
    let parts = unit_once unit begins.unit rest after is_unit begins.is_unit begins.joined in
    unknown b (subst (λ (w : List ℕ). IsAccepted b w) (sym parts.0) begins.accepted)

-- a `{` that no `}` follows does not go on
stuck_open : (rest : List ℕ) → ¬ (Contains rest close_brace) → IsStuck (open_brace ∷ rest)
stuck_open rest not_closed b after begins = closed begins.unit begins.is_unit begins.joined
  where
    closed : (u : List ℕ) → IsUnit u → open_brace ∷ rest ≡ u ++ after → ⊥
    closed u (inl one) same =
        let joined : open_brace ∷ rest ≡ one.byte ∷ after = same ∙ ap (λ (w : List ℕ). w ++ after) one.is in
        one.no_brace (sym cc)
    closed u (inr one) same =
        let joined : open_brace ∷ rest ≡ open_brace ∷ (one.name ++ close_brace ∷ after) = same ∙ ap (λ (w : List ℕ). w ++ after) one.is ∙ braced_joined one.name after in
        let tails : one.name ++ close_brace ∷ after ≡ rest = cc in
        not_closed (subst (λ (w : List ℕ). Contains w close_brace) tails (close_in one.name after))

-- equal texts are stuck alike
stuck_same : (x y : List ℕ) → x ≡ y → IsStuck y → IsStuck x
stuck_same x y same stuck = subst (λ (w : List ℕ). IsStuck w) (sym same) stuck

-- no unit goes on at a fault
pub stuck_fault : (place : ℕ) (left : List ℕ) (fault : TextFault) → BeginsFault place left fault → IsStuck left
stuck_fault place left (UnknownName at) (is, begins) =
    stuck_same left (braced_name begins.name ++ begins.rest) begins.joined
    (stuck_unknown (braced_name begins.name) begins.rest (inr (record { name = begins.name; is = refl; next = begins.next })) begins.unknown)
stuck_fault place left (OpenBrace at) (is, begins) = stuck_same left (open_brace ∷ begins.rest) begins.joined (stuck_open begins.rest begins.not_closed)
stuck_fault place left (BadByte at) (is, begins) =
    stuck_same left (begins.byte ∷ begins.rest) begins.joined
    (stuck_unknown (begins.byte ∷ []) begins.rest (inl (record { byte = begins.byte; is = refl; no_brace = begins.no_brace })) begins.unknown)
stuck_fault place left (Memory error) none = absurd none

-- ---- the unit that the next `}` ends

-- the name ends at the first `}` of the text, and the rest follows
pub record Closes (text name rest : List ℕ) : Type 0 where
  pub joined : text ≡ name ++ close_brace ∷ rest
  pub next : ¬ (Contains name close_brace)

-- the place of the first `}` ends the name
pub closes_at : (text : List ℕ) (i : ℕ) → position (λ b. b == close_brace) text ≡ Some i → Closes text (take i text) (drop (i + 1) text)
closes_at text i found =
    let at = position-Some (λ (b : ℕ). b == close_brace) text i close_brace found in
    let closed : get_or text i close_brace ≡ close_brace = eqb-true _ _ at.1 in
    record {
      joined = sym (take-append-drop i text) ∙ ap (λ (w : List ℕ). take i text ++ w) (drop_more text i close_brace at.0 ∙ ap (λ (c : ℕ). c ∷ drop (i + 1) text) closed);
      next = λ (k, within, is).
          let before : k < i = omega (arith, within, length-take i text) in
          eqb-false _ _ (at.2 k before) (sym (get_or-take i text k close_brace before) ∙ is);
    }

-- an option that is None by a test
past_none : (b : Bool) (x : ℕ) → cond b (Some x) None ≡ None → b ≡ false
past_none true x is = absurd cc
past_none false x is = refl

-- if no place has a `}`, no `}` follows
pub never_closes : (text : List ℕ) → position (λ b. b == close_brace) text ≡ None → ¬ (Contains text close_brace)
never_closes text none (k, within, is) =
    let past : length text ≤ position_or_len (λ b. b == close_brace) text = ltb-false _ _ (past_none (nat_lt (position_or_len (λ b. b == close_brace) text) (length text)) (position_or_len (λ b. b == close_brace) text) none) in
    eqb-false _ _ (fails_before_first (λ (b : ℕ). b == close_brace) text k close_brace (omega (arith, within, past))) is

-- a `{`, a byte's name and a `}` stand for the byte
pub begins_name : (text name rest : List ℕ) (b : ℕ) → Closes text name rest → Names (str_to_ascii_lowercase name) b → BeginsWith (open_brace ∷ text) b rest
begins_name text name rest b closes names = record {
  unit = braced_name name;
  is_unit = inr (record { name = name; is = refl; next = closes.next });
  accepted = accepted_name b name closes.next names;
  joined = ap (λ (w : List ℕ). open_brace ∷ w) closes.joined ∙ sym (braced_joined name rest);
}

-- a `{`, no byte's name and a `}` are an unknown name
pub begins_unknown : (text name rest : List ℕ) → Closes text name rest → ((b : ℕ) → ¬ (Names (str_to_ascii_lowercase name) b)) → BeginsUnknownName (open_brace ∷ text)
begins_unknown text name rest closes none = record {
  name = name;
  rest = rest;
  joined = ap (λ (w : List ℕ). open_brace ∷ w) closes.joined ∙ sym (braced_joined name rest);
  next = closes.next;
  unknown = unknown_name name none;
}
