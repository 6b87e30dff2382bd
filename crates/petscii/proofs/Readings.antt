-- Texts of bytes: one byte more, and one way to read them.
use Rattle.std.proofs.Common.{◌≡◌, ℕ, ◌<◌, List, [], ◌∷◌, ◌++◌, ◌-◌, ◌≤◌, length, take, drop, get_or, Contains, All, refl, sym, ◌∙◌, ap, subst, append_assoc, arith}
use Rattle.std.proofs.lemmas.List.{append-nil, take_all}
use Rattle.std.proofs.lemmas.List.Elements.{All-head, All-tail}
use Rattle.petscii.specs.Spelling.{spell, spelling}
use Rattle.petscii.specs.TextForm.{open_brace, close_brace, IsUnit, IsAccepted, BeginsWith, IsTextOf}
use Rattle.petscii.specs.TextFault.{BeginsUnknownName, BeginsOpenBrace, BeginsBadByte, BeginsFault, IsFirstTextFault}
use Rattle.petscii.specs.declared.fault.TextFault.{TextFault}
use Rattle.petscii.specs.declared.fault.TextFault.TheVariants.{UnknownName, OpenBrace, BadByte, Memory}
use Rattle.petscii.proofs.UnitForms.{spell_unit, spell_accepted}
use Rattle.petscii.proofs.Units.{close_in, braced_joined, unit_once, begins_once, stuck_end, stuck_fault, IsStuck}

-- ---- one byte more

-- a text with one unit more is a text of one byte more
pub text_push : (bytes before : List ℕ) (b : ℕ) (unit : List ℕ) → IsTextOf bytes before → IsUnit unit → IsAccepted b unit → IsTextOf (bytes ++ b ∷ []) (before ++ unit)
unfolding IsTextOf
text_push [] before b unit nothing is_unit accepted =
    ([], record { unit = unit; is_unit = is_unit; accepted = accepted; joined = ap (λ (w : List ℕ). w ++ unit) nothing ∙ sym (append-nil unit) }, refl)
text_push (a ∷ bytes) before b unit (rest, begins, read) is_unit accepted = (
  rest ++ unit,
  record {
    unit = begins.unit;
    is_unit = begins.is_unit;
    accepted = begins.accepted;
    joined = ap (λ (w : List ℕ). w ++ unit) begins.joined ∙ append_assoc begins.unit rest unit;
  },
  text_push bytes rest b unit read is_unit accepted,
)

-- what has been read of a text, and what is left
pub record ReadsSoFar (text bytes left : List ℕ) : Type 0 where
  pub before : List ℕ
  pub joined : text ≡ before ++ left
  pub read : IsTextOf bytes before

-- before the first unit nothing has been read
pub read_nothing : (text : List ℕ) → ReadsSoFar text [] text
unfolding IsTextOf
read_nothing text = record { before = []; joined = refl; read = refl }

-- one unit more
pub read_more : (text bytes left : List ℕ) (b : ℕ) (rest : List ℕ) → ReadsSoFar text bytes left → BeginsWith left b rest → ReadsSoFar text (bytes ++ b ∷ []) rest
read_more text bytes left b rest so_far begins = record {
  before = so_far.before ++ begins.unit;
  joined = so_far.joined ∙ ap (λ (w : List ℕ). so_far.before ++ w) begins.joined ∙ sym (append_assoc so_far.before begins.unit rest);
  read = text_push bytes so_far.before b begins.unit so_far.read begins.is_unit begins.accepted;
}

-- a slice by its first element and the others
pub first_and_others : (xs : List ℕ) → 1 ≤ length xs → xs ≡ get_or xs 0 0 ∷ take (length xs - 1) (drop 1 xs)
first_and_others [] some = absurd (omega arith)
first_and_others (x ∷ xs) some = ap (λ (w : List ℕ). x ∷ w) (sym (take_all (length (x ∷ xs) - 1) xs (omega arith)))

-- ---- one way to read a text

-- two readings of a text are the same, with what is left
pub record SameStop (xs ys before_x before_y left_x left_y : List ℕ) : Type 0 where
  pub bytes : xs ≡ ys
  pub before : before_x ≡ before_y
  pub left : left_x ≡ left_y

-- two readings of a text that can't go on are the same
pub same_stop : (xs ys before_x before_y left_x left_y : List ℕ) → IsTextOf xs before_x → IsTextOf ys before_y → before_x ++ left_x ≡ before_y ++ left_y → IsStuck left_x → IsStuck left_y
    → SameStop xs ys before_x before_y left_x left_y
unfolding IsTextOf
same_stop [] [] before_x before_y left_x left_y read_x read_y same stuck_x stuck_y = record {
  bytes = refl;
  before = read_x ∙ sym read_y;
  left = ap (λ (w : List ℕ). w ++ left_x) (sym read_x) ∙ same ∙ ap (λ (w : List ℕ). w ++ left_y) read_y;
}
same_stop [] (y ∷ ys) before_x before_y left_x left_y read_x (rest, begins, read_y) same stuck_x stuck_y =
    absurd (stuck_x y (rest ++ left_y) record {
      unit = begins.unit;
      is_unit = begins.is_unit;
      accepted = begins.accepted;
      joined = ap (λ (w : List ℕ). w ++ left_x) (sym read_x) ∙ same ∙ ap (λ (w : List ℕ). w ++ left_y) begins.joined ∙ append_assoc begins.unit rest left_y;
    })
same_stop (x ∷ xs) [] before_x before_y left_x left_y (rest, begins, read_x) read_y same stuck_x stuck_y =
    absurd (stuck_y x (rest ++ left_x) record {
      unit = begins.unit;
      is_unit = begins.is_unit;
      accepted = begins.accepted;
      joined = ap (λ (w : List ℕ). w ++ left_y) (sym read_y) ∙ sym same ∙ ap (λ (w : List ℕ). w ++ left_x) begins.joined ∙ append_assoc begins.unit rest left_x;
    })
same_stop (x ∷ xs) (y ∷ ys) before_x before_y left_x left_y (rest_x, begins_x, read_x) (rest_y, begins_y, read_y) same stuck_x stuck_y =
    let at_x : BeginsWith (before_x ++ left_x) x (rest_x ++ left_x) = record {
      unit = begins_x.unit;
      is_unit = begins_x.is_unit;
      accepted = begins_x.accepted;
      joined = ap (λ (w : List ℕ). w ++ left_x) begins_x.joined ∙ append_assoc begins_x.unit rest_x left_x;
    } in
    let at_y : BeginsWith (before_x ++ left_x) y (rest_y ++ left_y) = record {
      unit = begins_y.unit;
      is_unit = begins_y.is_unit;
      accepted = begins_y.accepted;
      joined = same ∙ ap (λ (w : List ℕ). w ++ left_y) begins_y.joined ∙ append_assoc begins_y.unit rest_y left_y;
    } in
    let first = begins_once (before_x ++ left_x) x y (rest_x ++ left_x) (rest_y ++ left_y) at_x at_y in
    let units = unit_once begins_x.unit begins_y.unit (rest_x ++ left_x) (rest_y ++ left_y) begins_x.is_unit begins_y.is_unit (sym at_x.joined ∙ at_y.joined) in
    let others = same_stop xs ys rest_x rest_y left_x left_y read_x read_y first.1 stuck_x stuck_y in
    record {
      bytes = ap (λ (b : ℕ). b ∷ xs) first.0 ∙ ap (λ (bs : List ℕ). y ∷ bs) others.bytes;
      before = begins_x.joined ∙ ap (λ (w : List ℕ). w ++ rest_x) units.0 ∙ ap (λ (w : List ℕ). begins_y.unit ++ w) others.before ∙ sym begins_y.joined;
      left = others.left;
    }

-- ---- the laws

-- a text stands for at most one list of bytes
pub one_reading : (text a b : List ℕ) → IsTextOf a text → IsTextOf b text → a ≡ b
one_reading text a b read_a read_b = (same_stop a b text text [] [] read_a read_b refl stuck_end stuck_end).bytes

-- no fault begins at the end of a text
not_empty : (place : ℕ) (fault : TextFault) → ¬ (BeginsFault place [] fault)
not_empty place (UnknownName at) (is, begins) = let same : [] ≡ open_brace ∷ ((begins.name ++ close_brace ∷ []) ++ begins.rest) = begins.joined in absurd cc
not_empty place (OpenBrace at) (is, begins) = let same : [] ≡ open_brace ∷ begins.rest = begins.joined in absurd cc
not_empty place (BadByte at) (is, begins) = let same : [] ≡ begins.byte ∷ begins.rest = begins.joined in absurd cc
not_empty place (Memory error) none = none

-- a text of bytes has no fault
pub no_fault : (text bytes : List ℕ) (fault : TextFault) → IsTextOf bytes text → ¬ (IsFirstTextFault text fault)
no_fault text bytes fault read first =
    let stop = same_stop bytes first.bytes text first.before [] first.left read first.read (append-nil text ∙ first.joined) stuck_end (stuck_fault (length first.before) first.left fault first.begins) in
    not_empty (length first.before) fault (subst (λ (w : List ℕ). BeginsFault (length first.before) w fault) (sym stop.left) first.begins)

-- an unknown name is no open brace
name_not_open : (left : List ℕ) → BeginsUnknownName left → ¬ (BeginsOpenBrace left)
name_not_open left one other =
    let joined : open_brace ∷ (one.name ++ close_brace ∷ one.rest) ≡ open_brace ∷ other.rest = sym (one.joined ∙ braced_joined one.name one.rest) ∙ other.joined in
    let tails : one.name ++ close_brace ∷ one.rest ≡ other.rest = cc in
    other.not_closed (subst (λ (w : List ℕ). Contains w close_brace) tails (close_in one.name one.rest))

-- what begins with a `{` does not begin with a bad byte
brace_not_bad : (left rest : List ℕ) → left ≡ open_brace ∷ rest → ¬ (BeginsBadByte left)
brace_not_bad left rest is bad =
    let joined : bad.byte ∷ bad.rest ≡ open_brace ∷ rest = sym bad.joined ∙ is in
    bad.no_brace cc

-- at one place there is one fault
one_begin : (place : ℕ) (left : List ℕ) (a b : TextFault) → BeginsFault place left a → BeginsFault place left b → a ≡ b
one_begin place left (UnknownName x) (UnknownName y) (at_x, one) (at_y, other) = ap (λ (n : ℕ). UnknownName n) (at_x ∙ sym at_y)
one_begin place left (UnknownName x) (OpenBrace y) (at_x, one) (at_y, other) = absurd (name_not_open left one other)
one_begin place left (UnknownName x) (BadByte y) (at_x, one) (at_y, other) = absurd (brace_not_bad left (one.name ++ close_brace ∷ one.rest) (one.joined ∙ braced_joined one.name one.rest) other)
one_begin place left (OpenBrace x) (OpenBrace y) (at_x, one) (at_y, other) = ap (λ (n : ℕ). OpenBrace n) (at_x ∙ sym at_y)
one_begin place left (OpenBrace x) (UnknownName y) (at_x, one) (at_y, other) = absurd (name_not_open left other one)
one_begin place left (OpenBrace x) (BadByte y) (at_x, one) (at_y, other) = absurd (brace_not_bad left one.rest one.joined other)
one_begin place left (BadByte x) (BadByte y) (at_x, one) (at_y, other) = ap (λ (n : ℕ). BadByte n) (at_x ∙ sym at_y)
one_begin place left (BadByte x) (UnknownName y) (at_x, one) (at_y, other) = absurd (brace_not_bad left (other.name ++ close_brace ∷ other.rest) (other.joined ∙ braced_joined other.name other.rest) one)
one_begin place left (BadByte x) (OpenBrace y) (at_x, one) (at_y, other) = absurd (brace_not_bad left other.rest other.joined one)
one_begin place left (Memory x) b none other = absurd none
one_begin place left a (Memory y) one none = absurd none

-- a text has no two leftmost faults
pub one_fault : (text : List ℕ) (a b : TextFault) → IsFirstTextFault text a → IsFirstTextFault text b → a ≡ b
one_fault text a b one other =
    let stop = same_stop one.bytes other.bytes one.before other.before one.left other.left one.read other.read (sym one.joined ∙ other.joined)
    (stuck_fault (length one.before) one.left a one.begins) (stuck_fault (length other.before) other.left b other.begins) in
    one_begin (length one.before) one.left a b one.begins
    (subst (λ (w : List ℕ). BeginsFault (length one.before) w b) (sym stop.left) (subst (λ (w : List ℕ). BeginsFault (length w) other.left b) (sym stop.before) other.begins))

-- the spelling of bytes is their text
pub spelling_read : (bytes : List ℕ) → All (λ b. b < 256) bytes → IsTextOf bytes (spelling bytes)
unfolding spelling IsTextOf
spelling_read [] small = refl
spelling_read (b ∷ bytes) small =
    let first : b < 256 = All-head (λ x. x < 256) b bytes small in
    (spelling bytes, record { unit = spell b; is_unit = spell_unit b first; accepted = spell_accepted b first; joined = refl }, spelling_read bytes (All-tail (λ x. x < 256) b bytes small))
