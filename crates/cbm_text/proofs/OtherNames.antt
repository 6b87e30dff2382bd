-- The names in braces that other programs and listings use, in parts.
use Rattle.std.proofs.Common.{◌≡◌, ℕ, List, ◌++◌, take, drop, Option, Some, None, refl, sym, ap, ◌∙◌}
use Rattle.std.specs.Option.{option_map, option_or}
use Rattle.std.specs.Str.{bytes_eq}
use Rattle.std.specs.List.{find}
use Rattle.std.proofs.lemmas.List.Folds.{find-append}
use Rattle.cbm_text.specs.Causes.{byte_in, other_names}

option_map-or : {A B : Type 0} (f : A → B) (one other : Option A) → option_map f (option_or one other) ≡ option_or (option_map f one) (option_map f other)
option_map-or f None other = refl
option_map-or f (Some value) other = refl

-- the first row with a name is among the one rows, or else among the others
byte_in-append : (one other : List (List ℕ × ℕ)) (name : List ℕ) → byte_in (one ++ other) name ≡ option_or (byte_in one name) (byte_in other name)
byte_in-append one other name =
    ap (option_map (λ row. row.1)) (find-append (λ row. bytes_eq name row.0) one other)
    ∙ option_map-or (λ row. row.1) (find (λ row. bytes_eq name row.0) one) (find (λ row. bytes_eq name row.0) other)

-- four parts of the rows are all of them
parts : ((take 8 other_names ++ take 11 (drop 8 other_names)) ++ take 11 (drop 19 other_names)) ++ drop 30 other_names ≡ other_names
unfolding other_names
parts = refl

-- so a name is looked up in one part after another
pub byte_in-parts : (name : List ℕ) → byte_in other_names name
    ≡ option_or (option_or (option_or (byte_in (take 8 other_names) name) (byte_in (take 11 (drop 8 other_names)) name)) (byte_in (take 11 (drop 19 other_names)) name)) (byte_in (drop 30 other_names) name)
byte_in-parts name =
    ap (λ rows. byte_in rows name) (sym parts)
    ∙ byte_in-append ((take 8 other_names ++ take 11 (drop 8 other_names)) ++ take 11 (drop 19 other_names)) (drop 30 other_names) name
    ∙ ap (λ found. option_or found (byte_in (drop 30 other_names) name))
    (byte_in-append (take 8 other_names ++ take 11 (drop 8 other_names)) (take 11 (drop 19 other_names)) name
    ∙ ap (λ found. option_or found (byte_in (take 11 (drop 19 other_names)) name)) (byte_in-append (take 8 other_names) (take 11 (drop 8 other_names)) name))
