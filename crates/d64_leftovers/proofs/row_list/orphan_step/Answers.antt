use Rattle.std.proofs.Common.{◌≡◌, ◌++◌, ◌∷◌, List, sym, ap, ◌∙◌, arith}
use Rattle.d64_leftovers.specs.Sources.{orphans_from}
use Rattle.d64_leftovers.specs.declared.row.ListedRow.{ListedRow}
use Rattle.d64_leftovers.proofs.RowLists.{none_left}
use Rattle.d64_leftovers.proofs.row_list.orphan_step.Goals as goal

pub returns-in-Some-clause-found : goal.returns-in-Some-clause-found
returns-in-Some-clause-found c =
    let source = c.args.source.now in
    c.in-Some.ensures.found
    ∙ ap (λ (rows : List ListedRow). c.in-Some.found.row ∷ (rows ++ orphans_from source c.in-Some.found.next)) (sym (none_left source c.slot_count-slot.result (omega (arith, c.slot_count-slot.ensures))))
