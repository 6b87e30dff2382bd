-- Names of the host as fields of a row.
use Rattle.std.proofs.Common.{◌≡◌, ℕ, Bool, true, false, List, ap, refl}
use Rattle.std.specs.Prelude.{if◌then◌else◌}
use Rattle.std.specs.Str.{IsUtf8, is_utf8}
use Rattle.std.proofs.lemmas.Str.{IsUtf8-from_is_utf8, is_utf8-from_IsUtf8}
use Rattle.host_storage.specs.Shown.{shown_name}
use Rattle.out_json_csv.specs.Rows.{host_field}

-- one that is UTF-8
pub host_field-utf8 : (name : List ℕ) → IsUtf8 name → host_field name ≡ name
host_field-utf8 name text = ap (λ (is : Bool). if is then name else shown_name name) (is_utf8-from_IsUtf8 name text)

-- one that isn't
pub host_field-other : (name : List ℕ) → (IsUtf8 name → ⊥) → host_field name ≡ shown_name name
host_field-other name no_text = by_test (is_utf8 name) (λ is. no_text (IsUtf8-from_is_utf8 name is))
  where
    by_test : (test : Bool) → (test ≡ true → ⊥) → (if test then name else shown_name name) ≡ shown_name name
    by_test true never = absurd (never refl)
    by_test false never = refl
