use Rattle.std.proofs.Common.{◌≡◌, ◌∙◌, ℕ, List, ◌++◌, codes, ap}
use Rattle.std.proofs.lemmas.Result.{IfOk-weaker}
use Rattle.cmd_check.specs.CheckRows.{columns, in_digest, header_row}
use Rattle.cmd_check.proofs.EndedRows.{row_ended}
use Rattle.cmd_check.proofs.row.csv_header.Goals as goal

pub returns : goal.returns
returns c =
    let has = c.args.has_digest in
    let named = c.in_ok-push_fields.ensures ∙ ap (λ (fields : List (List ℕ)). fields ++ columns) c.clear.ensures in
    let ended = row_ended c.args.out.items _ _ _ columns (in_digest has (codes "sha256")) (codes "doubts") (codes "error") named c.in_ok-push_in_digest.ensures c.in_ok-push_field.ensures.pushed in
    IfOk-weaker c.end_row.result _ (λ text. text.items ≡ c.args.out.items ++ header_row has) (λ text known. known ∙ ended) c.end_row.ensures
