use Rattle.std.proofs.Common.{◌≡◌, ◌∙◌, List, [], ◌∷◌, ◌++◌, option_map, ap}
use Rattle.std.proofs.lemmas.Result.{IfOk-weaker}
use Rattle.hex.specs.Hex.{encode_lower}
use Rattle.d64_survey.specs.Doubts.{doubts}
use Rattle.d64_survey.specs.declared.doubt.Doubt.{Doubt}
use Rattle.cmd_check.specs.Doubts.{doubt_names_text}
use Rattle.cmd_check.specs.Checks.{check_fields, check_row}
use Rattle.cmd_check.proofs.EndedRows.{row_ended}
use Rattle.cmd_check.proofs.csv_line.check_csv.Goals as goal

pub returns : goal.returns
unfolding check_row
returns c =
    let dump = c.args.inspection.now in
    let name = c.args.name.now in
    let digest = option_map (λ d. d.now) c.args.digest in
    let before = c.push_digest.new.row in
    let doubted = c.in_ok-push_doubts.ensures ∙ ap (λ (list : List Doubt). before ++ doubt_names_text list ∷ []) c.doubts.ensures in
    let ended = row_ended c.args.out.items _ _ _ (check_fields dump name) (option_map encode_lower digest) (doubt_names_text (doubts dump.image)) []
    c.in_ok-put_dump_row.ensures c.in_ok-push_digest.ensures doubted in
    IfOk-weaker c.end_row.result _ (λ text. text.items ≡ c.args.out.items ++ check_row dump name digest) (λ text known. known ∙ ended) c.end_row.ensures
