-- The first line goes through the first LF, or to the end.
use Rattle.std.proofs.Common.{sym, ◌∙◌, rules, tests}
use Rattle.std.proofs.lemmas.Iterator.{YieldsList-from_slice}
use Rattle.std.proofs.lemmas.Iterator.Search.{position_from_yields_List}
use Rattle.script_text.proofs.LineCuts.{is_line_feed, length-take_through-found, length-take_through-missing}
use Rattle.script_text.proofs.raw_lines.line_end.Goals as goal

pub returns-in-Some : goal.returns-in-Some
returns-in-Some c =
    let script = c.args.script.now in
    let first = position_from_yields_List is_line_feed _ _ c.position.result c.position.ensures.ran (YieldsList-from_slice script cc) (λ x b q k. search (rules, tests)) in
    length-take_through-found script c.in-Some.place (sym c.in-Some.is ∙ first)

pub returns-in-None : goal.returns-in-None
returns-in-None c =
    let script = c.args.script.now in
    let first = position_from_yields_List is_line_feed _ _ c.position.result c.position.ensures.ran (YieldsList-from_slice script cc) (λ x b q k. search (rules, tests)) in
    length-take_through-missing script (sym c.in-None.is ∙ first)
