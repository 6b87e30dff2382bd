use Rattle.d64_g64.specs.Starts.{starts_on}
use Rattle.d64_g64.proofs.SoundNames.{name_added, all_added}
use Rattle.d64_g64.proofs.naming.add_names.Goals as goal

pub loop-index-preserved : goal.loop-index-preserved
loop-index-preserved c =
    name_added c.args.id c.args.track.now (starts_on c.args.track.now) c.loop-index.index c.loop-index.names.items _ _ (rw c.count_starts-index-end.ensures at c.loop-index-test.true)
    (rw (c.start_at-start.ensures, c.next_start-next.ensures.value) at c.in_ok-add_name.ensures) c.loop-index.invariant

pub returns : goal.returns
returns c =
    all_added c.args.id c.args.track.now (starts_on c.args.track.now) c.loop-index.index c.loop-index.names.items _ (rw c.count_starts-index-end.ensures at c.loop-index-test.false) c.loop-index.invariant
