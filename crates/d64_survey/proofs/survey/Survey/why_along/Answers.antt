use Rattle.std.proofs.Common.{ℕ, ◌&&◌, not, Bool, List, sym, ap, ◌∙◌}
use Rattle.d64_survey.specs.Flaws.{is_geos, is_missized}
use Rattle.d64_survey.proofs.FlawLists.{none_of_deleted, all_flaws}
use Rattle.d64_survey.proofs.survey.Survey.why_along.Goals as goal

pub returns-then-is_del : goal.returns-then-is_del
returns-then-is_del c = none_of_deleted c.args.self.now _ c.args.entry.now.bytes _ c.new-list.ensures (sym c.is_del.ensures ∙ c.if-is_del.true)

pub returns : goal.returns
returns c =
    let image = c.args.self.now in
    let cell = c.args.entry.now.bytes in
    let geos = c.is_geos-is_geos.ensures ∙ ap (λ (i : List (List ℕ)). is_geos i cell) c.image.ensures in
    all_flaws image _ cell _ _ _ _ _ _ _ _ _ _ _ _ _ _ _ (sym c.is_del.ensures ∙ c.if-is_del.false) (record {
      closed = ap not c.closed.ensures;
      kind = ap not c.has_kind.ensures;
      broken = c.look_at-sight.ensures.broken;
      shared = c.look_at-sight.ensures.shared;
      unreadable = c.look_at-sight.ensures.unreadable;
      missized = c.is_missized-is_missized.ensures ∙ ap (λ (t : Bool). not t && is_missized image cell) geos;
      geos = geos;
    }) c.new-list.ensures c.flaw_if.ensures.list c.flaw_if-2.ensures.list c.flaw_if-3.ensures.list c.flaw_if-4.ensures.list c.flaw_if-5.ensures.list c.flaw_if-6.ensures.list
    c.flaw_if-7.ensures.list
