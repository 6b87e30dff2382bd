use Rattle.d64_g64.proofs.Circles.{byte_within, byte_round}
use Rattle.d64_g64.proofs.circle.byte_at.Goals as goal

pub returns-then-place-track : goal.returns-then-place-track
returns-then-place-track c = byte_within c.args.track.now c.args.place c.if-place-track.true

pub returns-else-place-track : goal.returns-else-place-track
returns-else-place-track c = byte_round c.args.track.now c.args.place
