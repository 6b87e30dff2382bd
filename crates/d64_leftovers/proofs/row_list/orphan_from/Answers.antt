use Rattle.std.proofs.Common.{ℕ, ◌<◌, ◌≤◌, sym, ap, ◌∙◌, subst}
use Rattle.d64_leftovers.specs.Sources.{SourceView, orphan_at}
use Rattle.d64_leftovers.proofs.RowLists.{no_orphan, orphan_first, orphan_later}
use Rattle.d64_leftovers.proofs.row_list.orphan_from.Goals as goal

pub returns-in-Some-clause-found : goal.returns-in-Some-clause-found
returns-in-Some-clause-found c =
    let source = c.args.source.now in
    c.loop-at.invariant.left
    ∙ orphan_first source c.loop-at.at c.in-Some.row (subst (λ (n : ℕ). c.loop-at.at < n) c.left_count-at-end.ensures c.loop-at-test.true)
    (sym c.in-Some.is ∙ c.orphan.ensures.row ∙ ap (λ (s : SourceView). orphan_at s c.loop-at.at) c.loop-at.invariant.same)

pub loop-at-preserved : goal.loop-at-preserved
loop-at-preserved c =
    let source = c.args.source.now in
    record {
      left =
          c.loop-at.invariant.left
          ∙ orphan_later source c.loop-at.at (subst (λ (n : ℕ). c.loop-at.at < n) c.left_count-at-end.ensures c.loop-at-test.true)
          (sym c.in-None.is ∙ c.orphan.ensures.row ∙ ap (λ (s : SourceView). orphan_at s c.loop-at.at) c.loop-at.invariant.same);
      same = c.orphan.ensures.same ∙ c.loop-at.invariant.same;
    }

pub returns-clause-found : goal.returns-clause-found
returns-clause-found c =
    c.loop-at.invariant.left
    ∙ no_orphan c.args.source.now c.loop-at.at (subst (λ (n : ℕ). n ≤ c.loop-at.at) c.left_count-at-end.ensures c.loop-at-test.false)
