use Rattle.std.proofs.Common.{ℕ, ◌==◌, ◌++◌, List, sym, ap, ◌∙◌}
use Rattle.std.specs.Prelude.{codes}
use Rattle.std.proofs.lemmas.Bool.{ne_eqb, cond-false}
use Rattle.std.proofs.lemmas.Result.{on_ok_weaker}
use Rattle.petscii.specs.Spelling.{spell}
use Rattle.script_lines.proofs.FileTexts.{spelling-one}
use Rattle.script_lines.proofs.file_text.push_byte.Goals as goal

pub returns : goal.returns
returns c =
    let byte = c.args.byte in
    let no_end = ne_eqb byte 13 c.if-byte-eq-CARRIAGE_RETURN.false in
    on_ok_weaker c.push_spelling.result
    (λ added. added
    ∙ ap (λ (more : List ℕ). c.args.text.now.items ++ more) (spelling-one byte ∙ sym (cond-false (byte == 13) (codes "\n") (spell byte) no_end)))
    c.push_spelling.ensures
