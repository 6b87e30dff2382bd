use Rattle.std.proofs.Common.{ℕ, sym, ap, ◌∙◌}
use Rattle.std.specs.List.{find}
use Rattle.std.specs.FinSet as set
use Rattle.d64_map.specs.Track.{blocks_on}
use Rattle.d64_map.proofs.Searching.{along_here, along_later, along_none, not_found}
use Rattle.d64_map.proofs.search.pick_along.Goals as goal

pub returns-in-Some : goal.returns-in-Some
returns-in-Some c =
    along_here (set.contains c.args.free.now) c.args.side c.loop-distance.distance c.args.end c.in-Some.block c.loop-distance-test.true
    (c.in-Some.ensures ∙ ap (λ (t : ℕ). find (set.contains c.args.free.now) (blocks_on t)) c.track.ensures)
    ∙ sym c.loop-distance.invariant

pub loop-distance-preserved : goal.loop-distance-preserved
loop-distance-preserved c =
    c.loop-distance.invariant
    ∙ along_later (set.contains c.args.free.now) c.args.side c.loop-distance.distance c.args.end c.loop-distance-test.true
    (sym (not_found c.pick_on.result c.in_default.not-Some) ∙ c.pick_on.ensures ∙ ap (λ (t : ℕ). find (set.contains c.args.free.now) (blocks_on t)) c.track.ensures)

pub returns : goal.returns
returns c =
    along_none (set.contains c.args.free.now) c.args.side c.loop-distance.distance c.args.end c.loop-distance-test.false ∙ sym c.loop-distance.invariant
