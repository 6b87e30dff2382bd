-- The tokens of an object.
use Rattle.std.proofs.Common.{◌≡◌, ℕ, List, Result, Ok, [], ◌∷◌, ◌++◌, refl, sym, ap, ap₂, ◌∙◌, append_assoc, append-nil}
use Rattle.std.proofs.lemmas.Grind.{flat_map-append}
use Rattle.std.proofs.lemmas.Result.{IfOk-at_ok, on_ok_weaker}
use Rattle.json.specs.Token.{Token, begin_object, end_object, key}
use Rattle.json.specs.Json.{Json}
use Rattle.json.specs.Tree.{json_tokens, members_tokens}
use Rattle.json.specs.Written.{Written, Writes}
use Rattle.out_json_csv.specs.Values.{Field, Prints, PrintsMembers, members_of, object_of, member_tokens, printed_line, line_of}

-- the tokens of members, and the closing bracket
members_end : (fields : List Field) → members_tokens (members_of fields) ≡ member_tokens fields ++ end_object ∷ []
members_end [] = refl
members_end (field ∷ fields) =
    ap (λ (ts : List Token). key field.0 ∷ (json_tokens field.1 ++ ts)) (members_end fields)
    ∙ ap (λ (ts : List Token). key field.0 ∷ ts) (sym (append_assoc (json_tokens field.1) (member_tokens fields) (end_object ∷ [])))

-- the tokens of members after others
members_after : (old first last : List Token) (fields more : List Field) → first ≡ old ++ member_tokens fields → last ≡ first ++ member_tokens more → last ≡ old ++ member_tokens (fields ++ more)
members_after old first last fields more begun done =
    done
    ∙ ap (λ (ts : List Token). ts ++ member_tokens more) begun
    ∙ append_assoc old (member_tokens fields) (member_tokens more)
    ∙ ap (λ (ts : List Token). old ++ ts) (sym (flat_map-append (λ (field : Field). key field.0 ∷ json_tokens field.1) fields more))

-- members between brackets are an object
object_between : (old opened last closed : List Token) (fields : List Field) → opened ≡ old ++ begin_object ∷ [] → last ≡ opened ++ member_tokens fields → closed ≡ last ++ end_object ∷ []
    → closed ≡ old ++ json_tokens (object_of fields)
object_between old opened last closed fields opens written closes =
    closes
    ∙ ap (λ (ts : List Token). ts ++ end_object ∷ []) (written ∙ ap (λ (ts : List Token). ts ++ member_tokens fields) opens)
    ∙ append_assoc (old ++ begin_object ∷ []) (member_tokens fields) (end_object ∷ [])
    ∙ append_assoc old (begin_object ∷ []) (member_tokens fields ++ end_object ∷ [])
    ∙ ap (λ (ts : List Token). old ++ (begin_object ∷ ts)) (sym (members_end fields))

-- a member printed by its key and its value
pub member_printed : {E : Type 0} {first last : Result (Unit {0}) E} {old now new : Written} {done : Unit {0}} {name : List ℕ} {value : Json}
    → Writes first old now (key name) → first ≡ Ok done → Prints last now new value → PrintsMembers last old new ((name, value) ∷ [])
member_printed {last = last} {old = old} {name = name} {value = value} named ok printed = record {
  before = printed.before ∙ named.room.0;
  tokens =
      on_ok_weaker last
      (λ written.
      written
      ∙ ap (λ (ts : List Token). ts ++ json_tokens value) (IfOk-at_ok _ ok named.ok)
      ∙ append_assoc old.tokens (key name ∷ []) (json_tokens value)
      ∙ ap (λ (ts : List Token). old.tokens ++ (key name ∷ ts)) (sym (append-nil (json_tokens value)))) printed.tokens;
}

-- members printed after others
pub members_printed : {E : Type 0} {first last : Result (Unit {0}) E} {old now new : Written} {done : Unit {0}} {fields more : List Field}
    → PrintsMembers first old now fields → first ≡ Ok done → PrintsMembers last now new more → PrintsMembers last old new (fields ++ more)
members_printed {last = last} begun ok ends = record {
  before = ends.before ∙ begun.before;
  tokens = on_ok_weaker last (λ written. members_after _ _ _ _ _ (IfOk-at_ok _ ok begun.tokens) written) ends.tokens;
}

-- an object printed by its brackets and its members
pub object_printed : {E : Type 0} {first middle last : Result (Unit {0}) E} {old opened now new : Written} {open_done done : Unit {0}} {fields : List Field}
    → Writes first old opened begin_object → first ≡ Ok open_done → PrintsMembers middle opened now fields → middle ≡ Ok done → Writes last now new end_object
    → Prints last old new (object_of fields)
object_printed {last = last} opens opened members ok closes = record {
  before = closes.room.0 ∙ members.before ∙ opens.room.0;
  tokens = on_ok_weaker last (λ closed. object_between _ _ _ _ _ (IfOk-at_ok _ opened opens.ok) (IfOk-at_ok _ ok members.tokens) closed) closes.ok;
}

-- the line of a value that is printed with nothing before it
pub line_printed : {E : Type 0} {result : Result (Unit {0}) E} {old new : Written} {done : Unit {0}} {value : Json} {out text : List ℕ}
    → old.before ≡ out → old.tokens ≡ [] → Prints result old new value → result ≡ Ok done → text ≡ new.before ++ printed_line new.tokens → text ≡ out ++ line_of value
line_printed {value = value} before fresh printed ok ended =
    ended
    ∙ ap₂ (λ (b : List ℕ) (ts : List Token). b ++ printed_line ts) (printed.before ∙ before)
    (IfOk-at_ok _ ok printed.tokens ∙ ap (λ (ts : List Token). ts ++ json_tokens value) fresh)
