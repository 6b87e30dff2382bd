use Rattle.std.proofs.Common.{◌≡◌, Ok, Err, refl}
use Rattle.d64_history.specs.History.{present_image}
use Rattle.script_lines.specs.Arguments.{block_argument}
use Rattle.script_lines.proofs.Acts.{Does-given, Does-refused}
use Rattle.script_commands.proofs.Refused.{responds_refused}
use Rattle.script_commands.proofs.handlers.block_write.Goals as goal

pub returns : goal.returns
returns g c =
    let at : Ok c.in_ok-at.at ≡ block_argument (present_image c.args.session.now) c.args.track.now c.args.sector.now = rw c.image.ensures.present at c.in_ok-at.ensures.block in
    let new = g.H.Host.state c.fetch.new.host in
    rw (← c.in_ok-name.ensures, ← at)
    (Does-given _ _ c.in_ok-bytes.bytes.items _ new _ _ _ (Ok c.in_ok-bytes.bytes.items, c.in_ok-bytes.ensures, refl)
    (rw c.as_slice.ensures.value at (c.write_one_block.ensures new)))

pub returns-in_err-bytes : goal.returns-in_err-bytes
returns-in_err-bytes g c =
    let at : Ok c.in_ok-at.at ≡ block_argument (present_image c.args.session.now) c.args.track.now c.args.sector.now = rw c.image.ensures.present at c.in_ok-at.ensures.block in
    rw (← c.in_ok-name.ensures, ← at)
    (responds_refused _ _ _ _ _ _ _ c.from_residual-in_err-bytes.ensures.1
    (Does-refused _ _ _ _ _ _ (Err c.in_err-bytes.field-0.0, c.in_err-bytes.ensures, refl)))
