-- The tokens of an array, an item at a time.
use Rattle.std.proofs.Common.{◌≡◌, List, ◌++◌, map}
use Rattle.json.specs.Token.{Token}
use Rattle.json.specs.Json.{Json}
use Rattle.json.specs.Tree.{items_tokens}
use Rattle.json.specs.Written.{Written}
use Rattle.out_json_csv.specs.Values.{items_of}

-- the tokens of the items that are left of an array, with its closing bracket
abbrev pub rest_of_array : {X : Type 0} → (X → Json) → List X → List Token
rest_of_array value xs = items_tokens (items_of (map value xs))

-- of an array of these items, all but the last ones are printed
pub record ArrayBegun {X : Type 0} (value : X → Json) (old now : Written) (all left : List X) : Type 0 where
  pub before : now.before ≡ old.before
  pub tokens : now.tokens ++ rest_of_array value left ≡ old.tokens ++ rest_of_array value all
