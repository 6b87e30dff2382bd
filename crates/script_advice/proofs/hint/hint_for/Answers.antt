use Rattle.std.proofs.Common.{◌∙◌, ℕ, Bool, List, Bor, ap, map, sym}
use Rattle.std.specs.Prelude.{find, option_map}
use Rattle.std.specs.Str.{str_eq_ignore_ascii_case}
use Rattle.std.proofs.lemmas.List.{at_drop_more}
use Rattle.script_lines.proofs.Finding.{found_first, passed_over}
use Rattle.script_advice.proofs.hint.hint_for.Goals as goal

-- a name and its hint
abbrev Row : Type 0
Row = List ℕ × List ℕ

-- a row of the code as one of the definitions
abbrev row_of : Bor (List ℕ) × Bor (List ℕ) → Row
row_of row = (row.0.now, row.1.now)

-- the name is found
pub returns-then-is_same_name : goal.returns-then-is_same_name
returns-then-is_same_name c =
    let has : Row → Bool = λ row. str_eq_ignore_ascii_case c.args.name.now row.0 in
    let here = at_drop_more (λ rows. find has (map row_of rows)) c.hints-other-items.result.now c.loop-other.other-index _ c.loop-other-test.true in
    ap (option_map (λ (row : Row). row.1)) (sym (here ∙ found_first has _ _ (sym c.is_same_name.ensures ∙ c.if-is_same_name.true)) ∙ c.loop-other.invariant)

-- another one is passed over
pub loop-other-preserved : goal.loop-other-preserved
loop-other-preserved c =
    let has : Row → Bool = λ row. str_eq_ignore_ascii_case c.args.name.now row.0 in
    let here = at_drop_more (λ rows. find has (map row_of rows)) c.hints-other-items.result.now c.loop-other.other-index _ c.loop-other-test.true in
    sym (here ∙ passed_over has _ _ (sym c.is_same_name.ensures ∙ c.if-is_same_name.false)) ∙ c.loop-other.invariant
