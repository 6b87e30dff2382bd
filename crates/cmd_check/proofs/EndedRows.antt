-- Rows whose last fields are a digest, if there is one, doubts, and an error.
use Rattle.std.proofs.Common.{◌≡◌, ℕ, List, Option, [], ◌∷◌, ◌++◌, ap, ◌∙◌, append_assoc}
use Rattle.csv.specs.Writing.{row_text, default_writer}
use Rattle.cmd_check.specs.CheckRows.{field_if, csv_row_of}

-- a row that ends in doubts and an error, after the digest
pub row_ended : (out : List ℕ) (all digested before fields : List (List ℕ)) (digest : Option (List ℕ)) (doubts error : List ℕ)
    → before ≡ fields → digested ≡ before ++ field_if digest → all ≡ digested ++ doubts ∷ []
    → out ++ row_text default_writer (all ++ error ∷ []) ≡ out ++ csv_row_of fields digest doubts error
row_ended out all digested before fields digest doubts error named known doubted =
    ap (λ (fs : List (List ℕ)). out ++ row_text default_writer fs)
    (ap (λ (fs : List (List ℕ)). fs ++ error ∷ []) doubted
    ∙ append_assoc digested (doubts ∷ []) (error ∷ [])
    ∙ ap (λ (fs : List (List ℕ)). fs ++ doubts ∷ error ∷ []) (known ∙ ap (λ (fs : List (List ℕ)). fs ++ field_if digest) named)
    ∙ append_assoc fields (field_if digest) (doubts ∷ error ∷ []))
