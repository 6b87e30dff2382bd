use Rattle.std.proofs.Common.{◌≡◌, ◌∙◌, ℕ, List, [], ◌∷◌, ◌++◌, ap}
use Rattle.std.proofs.lemmas.Result.{IfOk-weaker}
use Rattle.out_json_csv.specs.Rows.{host_field}
use Rattle.cmd_check.specs.CheckRows.{in_digest, failed_row}
use Rattle.cmd_check.proofs.EndedRows.{row_ended}
use Rattle.cmd_check.proofs.row.push_failed.Goals as goal

-- the fields between the name and the digest
abbrev empty_fields : List (List ℕ)
empty_fields = [] ∷ [] ∷ [] ∷ [] ∷ [] ∷ [] ∷ [] ∷ [] ∷ [] ∷ [] ∷ [] ∷ [] ∷ [] ∷ []

pub returns : goal.returns
unfolding failed_row
returns c =
    let name = c.args.name.now in
    let error = c.args.error.now in
    let has = c.args.has_digest in
    let begun = c.in_ok-push_host_name.ensures ∙ ap (λ (fields : List (List ℕ)). fields ++ host_field name ∷ []) c.clear.ensures in
    let named = c.in_ok-push_fields.ensures ∙ ap (λ (fields : List (List ℕ)). fields ++ empty_fields) begun in
    let ended = row_ended c.args.out.items _ _ _ (host_field name ∷ empty_fields) (in_digest has []) [] error named c.in_ok-push_in_digest.ensures c.in_ok-push_field.ensures.pushed in
    IfOk-weaker c.end_row.result _ (λ text. text.items ≡ c.args.out.items ++ failed_row name has error) (λ text known. known ∙ ended) c.end_row.ensures
