use Rattle.std.proofs.Common.{◌+◌, ◌-◌, ◌*◌, length, arith}
use Rattle.d64_g64.proofs.Circles.{byte_rounds}
use Rattle.d64_g64.proofs.start.byte_before.Goals as goal

pub returns-then-at-eq0 : goal.returns-then-at-eq0
returns-then-at-eq0 c =
    let track = c.args.track.now in
    let some = c.requires.track.0 in
    byte_rounds track (length track - 1) (c.args.at + 2 * length track - 1) 1 (omega (arith, some)) (omega (arith, some, c.if-at-eq0.true))

pub returns-else-at-eq0 : goal.returns-else-at-eq0
returns-else-at-eq0 c =
    let track = c.args.track.now in
    byte_rounds track (c.args.at - 1) (c.args.at + 2 * length track - 1) 2 (omega (arith, c.requires.at)) (omega (arith, c.if-at-eq0.false))
