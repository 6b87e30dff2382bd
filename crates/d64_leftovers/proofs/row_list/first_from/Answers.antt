use Rattle.std.proofs.Common.{ℕ, ◌<◌, ◌≤◌, sym, ap, ◌∙◌, subst}
use Rattle.d64_leftovers.specs.Sources.{SourceView, wanted_row_at}
use Rattle.d64_leftovers.proofs.RowLists.{none_left, row_first, row_later}
use Rattle.d64_leftovers.proofs.row_list.first_from.Goals as goal

pub returns-in-Some-clause-found : goal.returns-in-Some-clause-found
returns-in-Some-clause-found c =
    let source = c.args.source.now in
    c.loop-at.invariant.left
    ∙ row_first source c.loop-at.at c.in-Some.row (subst (λ (n : ℕ). c.loop-at.at < n) c.slot_count-at-end.ensures c.loop-at-test.true)
    (sym c.in-Some.is ∙ c.row.ensures.row ∙ ap (λ (s : SourceView). wanted_row_at s c.at.result) c.loop-at.invariant.same ∙ ap (wanted_row_at source) c.at.ensures)

pub loop-at-preserved : goal.loop-at-preserved
loop-at-preserved c =
    let source = c.args.source.now in
    record {
      left =
          c.loop-at.invariant.left
          ∙ row_later source c.loop-at.at (subst (λ (n : ℕ). c.loop-at.at < n) c.slot_count-at-end.ensures c.loop-at-test.true)
          (sym c.in-None.is ∙ c.row.ensures.row ∙ ap (λ (s : SourceView). wanted_row_at s c.at.result) c.loop-at.invariant.same ∙ ap (wanted_row_at source) c.at.ensures);
      same = c.row.ensures.same ∙ c.loop-at.invariant.same;
    }

pub returns-clause-found : goal.returns-clause-found
returns-clause-found c =
    c.loop-at.invariant.left
    ∙ none_left c.args.source.now c.loop-at.at (subst (λ (n : ℕ). n ≤ c.loop-at.at) c.slot_count-at-end.ensures c.loop-at-test.false)
