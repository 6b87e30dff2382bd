use Rattle.std.proofs.Common.{ℕ, ◌++◌, ap, ◌∙◌}
use Rattle.d64_leftovers.specs.Sources.{SourceView, wanted_rows_from, orphans_from}
use Rattle.d64_leftovers.proofs.RowLists.{from_first}
use Rattle.d64_leftovers.proofs.row_list.RowList.of.Goals as goal

pub returns : goal.returns
returns c = ap (λ (s : SourceView). wanted_rows_from s 0 ++ orphans_from s 0) c.of.ensures ∙ from_first (record { dump = c.args.inspection.now; wanted = c.args.wanted })
