-- The first byte that is no space decides.
use Rattle.std.proofs.Common.{ℕ, Bool, true, Bor, Option, not, eqb, option_map, sym, ap, ◌∙◌, rules, tests}
use Rattle.std.specs.Option.{option_map_or}
use Rattle.std.proofs.lemmas.Iterator.{YieldsList-from_slice}
use Rattle.std.proofs.lemmas.Iterator.Search.{find_from_yields_List}
use Rattle.script_text.proofs.raw_lines.is_skipped.Goals as goal

-- the result, by the first such byte
abbrev decides : Option ℕ → Bool
decides first = option_map_or (λ byte. eqb byte 59) first true

pub returns-in-Some : goal.returns-in-Some
returns-in-Some c =
    let text = c.args.text.now in
    let first = find_from_yields_List (λ byte. not (eqb byte 32)) _ _ c.find.result c.find.ensures.ran (YieldsList-from_slice text cc) (λ x b q k. search (rules, tests)) in
    ap decides (sym (ap (option_map (λ (x : Bor ℕ). x.now)) c.in-Some.is) ∙ first)

pub returns-in-None : goal.returns-in-None
returns-in-None c =
    let text = c.args.text.now in
    let first = find_from_yields_List (λ byte. not (eqb byte 32)) _ _ c.find.result c.find.ensures.ran (YieldsList-from_slice text cc) (λ x b q k. search (rules, tests)) in
    ap decides (sym (ap (option_map (λ (x : Bor ℕ). x.now)) c.in-None.is) ∙ first)
