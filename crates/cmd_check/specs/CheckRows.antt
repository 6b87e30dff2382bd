-- Rows of CSV: the columns, and the rows of files that cannot be read or are not dumps.
use Rattle.std.specs.Prelude.{ℕ, Bool, if◌then◌else◌, List, [], ◌∷◌, ◌++◌, Option, Some, None, codes}
use Rattle.std.specs.Option.{option_map_or}
use Rattle.csv.specs.Writing.{row_text, default_writer}
use Rattle.out_json_csv.specs.Rows.{host_field}

-- the columns of each row before the digest
abbrev pub columns : List (List ℕ)
columns =
    codes "image" ∷ codes "tracks" ∷ codes "codes" ∷ codes "name" ∷ codes "id" ∷ codes "dos" ∷ codes "entries" ∷ codes "whole" ∷ codes "free" ∷ codes "unowned" ∷ codes "sound"
    ∷ codes "amiss" ∷ codes "faults" ∷ codes "read_errors" ∷ []

-- a field, if there is one
abbrev pub field_if : Option (List ℕ) → List (List ℕ)
field_if field = option_map_or (λ text. text ∷ []) field []

-- a row on a line of its own: what comes before the digest, the digest if there is a column for it,
-- the doubts, and the error
abbrev pub csv_row_of : List (List ℕ) → Option (List ℕ) → List ℕ → List ℕ → List ℕ
csv_row_of fields digest doubts error = row_text default_writer (fields ++ (field_if digest ++ doubts ∷ error ∷ []))

-- a text in the column of the digest, if there is one
abbrev pub in_digest : Bool → List ℕ → Option (List ℕ)
in_digest has_digest text = if has_digest then Some text else None

-- the header row
abbrev pub header_row : Bool → List ℕ
header_row has_digest = csv_row_of columns (in_digest has_digest (codes "sha256")) (codes "doubts") (codes "error")

-- a row with only a name and an error
unfoldable pub failed_row : List ℕ → Bool → List ℕ → List ℕ
failed_row name has_digest error =
    csv_row_of (host_field name ∷ [] ∷ [] ∷ [] ∷ [] ∷ [] ∷ [] ∷ [] ∷ [] ∷ [] ∷ [] ∷ [] ∷ [] ∷ [] ∷ []) (in_digest has_digest []) [] error
