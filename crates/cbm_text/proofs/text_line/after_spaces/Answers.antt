use Rattle.std.proofs.Common.{ℕ, length, drop, Option, ◌∙◌, ap}
use Rattle.std.specs.Prelude.{unwrap_or}
use Rattle.std.proofs.lemmas.List.{take_rest}
use Rattle.cbm_text.specs.TextLine.{is_no_space, unspaced_line}
use Rattle.script_text.proofs.Runs.{unwrap_or_position}
use Rattle.cbm_text.proofs.text_line.after_spaces.Goals as goal

pub returns : goal.returns
unfolding unspaced_line
returns c =
    let text = c.args.text.now in
    take_rest text c.unwrap_or-spaces.result
    ∙ ap (λ (n : ℕ). drop n text) (c.unwrap_or-spaces.ensures ∙ ap (λ (o : Option ℕ). unwrap_or o (length text)) c.first_other_than_space.ensures ∙ unwrap_or_position is_no_space text)
