use Rattle.std.proofs.Common.{◌∙◌}
use Rattle.cbm_text.proofs.TextLines.{rest_of_line}
use Rattle.cbm_text.proofs.text_line.rest_of.Goals as goal

pub returns : goal.returns
returns c =
    c.after_space.ensures
    ∙ rest_of_line c.args.text.now c.after_spaces.result.now c.split_digits.result.1.now c.after_spaces.ensures c.split_digits.ensures.rest
