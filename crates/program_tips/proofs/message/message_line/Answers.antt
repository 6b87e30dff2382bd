use Rattle.std.proofs.Common.{Bor, List, ap, refl, ℕ, ◌∙◌}
use Rattle.std.specs.Str.Iter.{lines_steps}
use Rattle.std.specs.Str.Lines.{lines}
use Rattle.std.proofs.lemmas.Iterator.Splits.{YieldsList-from_lines}
use Rattle.program_tips.proofs.Lines.{first_item}
use Rattle.program_tips.proofs.message.message_line.Goals as goal

pub returns : goal.returns
returns c =
    ap (λ (line : Bor (List ℕ)). line.now) c.unwrap_or.ensures
    ∙ first_item lines_steps c.lines.result c.next.new.self (lines c.args.text.now) c.next.result _ (YieldsList-from_lines {s = c.lines.result} c.args.text.now c.lines.ensures.rest).runs c.next.ensures.steps refl
