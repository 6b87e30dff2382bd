use Rattle.std.proofs.Common.{◌≡◌, ◌+◌, None, Some, sym, ap, ◌∙◌, ◌++◌, ◌∷◌, take, eqb, rules, tests}
use Rattle.std.proofs.lemmas.List.{take_rest}
use Rattle.std.proofs.lemmas.Iterator.{YieldsList-from_slice}
use Rattle.std.proofs.lemmas.Iterator.Search.{position_from_yields_List}
use Rattle.script_text.proofs.Cuts.{found_at, found_none}
use Rattle.script_text.proofs.parts.split_once.Goals as goal

pub returns-in_err-place : goal.returns-in_err-place
returns-in_err-place c =
    let bytes = c.args.bytes.now in
    let first = position_from_yields_List (λ byte. eqb byte c.args.separator) _ _ c.position.result c.position.ensures.ran (YieldsList-from_slice bytes cc) (λ x b q k. search (rules, tests)) in
    let missing : c.position.result ≡ None = search rules in
    let none : c.from_residual.result ≡ None = search rules in
    rw none (found_none c.args.separator bytes (sym missing ∙ first))

pub returns : goal.returns
returns c =
    let bytes = c.args.bytes.now in
    let first = position_from_yields_List (λ byte. eqb byte c.args.separator) _ _ c.position.result c.position.ensures.ran (YieldsList-from_slice bytes cc) (λ x b q k. search (rules, tests)) in
    let found : c.position.result ≡ Some c.in_ok-place.place = search rules in
    let cut = found_at c.args.separator bytes c.in_ok-place.place (sym found ∙ first) in
    (cut.0, ap (λ l. take c.in_ok-place.place bytes ++ c.args.separator ∷ l) (take_rest bytes (c.in_ok-place.place + 1)) ∙ cut.1)
