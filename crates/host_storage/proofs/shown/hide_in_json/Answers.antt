use Rattle.std.proofs.Common.{◌≡◌, ◌-◌, true, length, take, drop, sym, ap, ◌∙◌, length-drop, arith, rules}
use Rattle.std.specs.List.{list_all}
use Rattle.std.proofs.lemmas.List.{take_all}
use Rattle.host_storage.specs.Shown.{shown_json, is_plain}
use Rattle.host_storage.proofs.PlainTexts.{plain_from}
use Rattle.host_storage.proofs.shown.hide_in_json.Goals as goal

pub returns-then-are_plain : goal.returns-then-are_plain
unfolding shown_json
returns-then-are_plain c =
    let text = c.args.text.now.items in
    let start = c.args.start in
    let all : take (length text - start) (drop start text) ≡ drop start text = take_all (length text - start) (drop start text) (omega (arith, length-drop start text)) in
    let plain : list_all is_plain (drop start text) ≡ true = sym (ap (list_all is_plain) all) ∙ search rules in
    plain_from start text plain
