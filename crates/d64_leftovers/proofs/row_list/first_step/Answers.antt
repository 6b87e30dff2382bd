use Rattle.std.proofs.Common.{◌≡◌, ◌++◌, ◌∷◌, [], List, sym, ap, subst}
use Rattle.std.specs.Prelude.{MatchOption}
use Rattle.d64_leftovers.specs.Sources.{SourceView, wanted_rows_from, orphans_from}
use Rattle.d64_leftovers.specs.declared.row.ListedRow.{ListedRow}
use Rattle.d64_leftovers.proofs.row_list.first_step.Goals as goal

pub returns-in-Some-clause-found : goal.returns-in-Some-clause-found
returns-in-Some-clause-found c = ap (λ (rows : List ListedRow). rows ++ orphans_from c.args.source.now c.args.left) c.in-Some.ensures.found

pub returns-in-None-clause-found : goal.returns-in-None-clause-found
returns-in-None-clause-found c =
    let source = c.args.source.now in
    subst (λ (rows : List ListedRow). MatchOption c.orphan_step.result (rows ++ orphans_from source c.args.left ≡ [])
    (λ step. rows ++ orphans_from source c.args.left ≡ step.row ∷ (wanted_rows_from source step.slot ++ orphans_from source step.left)))
    (sym c.in-None.ensures.found)
    (subst (λ (s : SourceView). MatchOption c.orphan_step.result (orphans_from s c.args.left ≡ [])
    (λ step. orphans_from s c.args.left ≡ step.row ∷ (wanted_rows_from s step.slot ++ orphans_from s step.left)))
    c.first_from.ensures.same c.orphan_step.ensures.found)
