-- JSON values from lists: objects with their members in order, and arrays.
use Rattle.std.specs.Prelude.{◌≡◌, ℕ, List, [], ◌∷◌, ◌++◌, Option, Result, OnOk, decimal}
use Rattle.std.specs.List.{flat_map}
use Rattle.std.specs.Option.{option_map_or}
use Rattle.json.specs.Token.{Token, key}
use Rattle.json.specs.Written.{Written}
use Rattle.json.specs.Json.{Json, null, number, array, object, Items, no_items, item, Members, no_members, member}
use Rattle.json.specs.Print.{print}
use Rattle.json.specs.Tree.{json_tokens}
use Rattle.host_storage.specs.Shown.{shown_json}

-- a member of an object: its key and its value
abbrev pub Field : Type 0
Field = List ℕ × Json

-- members in this order
abbrev pub members_of : List Field → Members
members_of [] = no_members
members_of (field ∷ fields) = member field.0 field.1 (members_of fields)

-- items in this order
abbrev pub items_of : List Json → Items
items_of [] = no_items
items_of (value ∷ values) = item value (items_of values)

-- an object with these members, in their order
abbrev pub object_of : List Field → Json
object_of fields = object (members_of fields)

-- an array of these values
abbrev pub array_of : List Json → Json
array_of values = array (items_of values)

-- a number in decimal
abbrev pub numeral : ℕ → Json
numeral n = number (decimal n)

-- a number in decimal, or null if there is none
abbrev pub numeral_or_null : Option ℕ → Json
numeral_or_null n = option_map_or numeral n null

-- tokens on a line of their own: without spaces outside strings, with control characters and the
-- marks of direction by their numbers, and a line feed at the end
abbrev pub printed_line : List Token → List ℕ
printed_line tokens = shown_json (print tokens) ++ 10 ∷ []

-- a value on a line of its own
abbrev pub line_of : Json → List ℕ
line_of value = printed_line (json_tokens value)

-- the tokens of members
abbrev pub member_tokens : List Field → List Token
member_tokens fields = flat_map (λ (field : Field). key field.0 ∷ json_tokens field.1) fields

-- a call with this result prints a value: what was written before stays, and if the call succeeds,
-- the tokens of the value come after it
pub record Prints {E : Type 0} (result : Result (Unit {0}) E) (old new : Written) (value : Json) : Type 0 where
  pub before : new.before ≡ old.before
  pub tokens : OnOk result (new.tokens ≡ old.tokens ++ json_tokens value)

-- a call with this result prints members of an object, in the same way
pub record PrintsMembers {E : Type 0} (result : Result (Unit {0}) E) (old new : Written) (fields : List Field) : Type 0 where
  pub before : new.before ≡ old.before
  pub tokens : OnOk result (new.tokens ≡ old.tokens ++ member_tokens fields)
