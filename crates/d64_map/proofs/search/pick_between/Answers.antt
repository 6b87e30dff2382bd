use Rattle.std.proofs.Common.{◌≡◌, ◌+◌, ◌<◌, sym, ◌∙◌, arith}
use Rattle.std.specs.FinSet as set
use Rattle.d64_image.specs.Block.{sectors_on, first_block}
use Rattle.d64_image.proofs.Zones.{counted_below}
use Rattle.d64_map.proofs.Searching.{sector_here, sector_later}
use Rattle.d64_map.proofs.search.pick_between.Goals as goal
use Rattle.d64_map.proofs.search.pick_between.Goals.{in_default-via-in-Some+else-has, in_default-via-in-None-1}

pub returns-in-loop-sector : goal.returns-in-loop-sector
returns-in-loop-sector c =
    let found : c.in-Some.block ≡ first_block c.args.track + c.loop-sector.sector = omega (arith, c.in-Some.ensures.1, c.from.ensures, c.first_block-first.ensures.first) in
    sector_here (set.contains c.args.free.now) c.args.track c.loop-sector.sector c.in-Some.block c.args.end c.loop-sector-test.true found (sym c.has.ensures.value ∙ c.if-has.true)
    ∙ sym c.loop-sector.invariant

pub loop-sector-preserved : goal.loop-sector-preserved
loop-sector-preserved c =
    let track = c.args.track in
    let sector = c.loop-sector.sector in
    elim c.in_default.branch [
      | in_default-via-in-Some+else-has w ↦
          let found : w.in-Some.block ≡ first_block track + sector = omega (arith, w.in-Some.ensures.1, c.from.ensures, c.first_block-first.ensures.first) in
          c.loop-sector.invariant
          ∙ sector_later (set.contains c.args.free.now) track sector w.in-Some.block c.args.end c.loop-sector-test.true found (sym w.has.ensures.value ∙ w.if-has.false)
      | in_default-via-in-None-1 w ↦
          let held : sector < sectors_on track = omega (arith, c.loop-sector-test.true, c.requires) in
          let below = counted_below track sector c.first_block-first.ensures.range.1 held in
          absurd (omega (arith, below, c.from.ensures, c.first_block-first.ensures.first))
    ]
