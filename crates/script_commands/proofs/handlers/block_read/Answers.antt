use Rattle.std.proofs.Common.{◌≡◌, Ok}
use Rattle.d64_image.specs.Image.{sector_at}
use Rattle.d64_history.specs.History.{present_image}
use Rattle.script_lines.specs.Arguments.{block_argument}
use Rattle.script_commands.proofs.handlers.block_read.Goals as goal

pub returns : goal.returns
returns g c =
    let image = present_image c.args.session.now in
    let at : Ok c.in_ok-block.block ≡ block_argument image c.args.track.now c.args.sector.now = rw c.image-image.ensures.present at c.in_ok-block.ensures.block in
    let bytes : c.sector.result.now ≡ sector_at image c.in_ok-block.block = rw c.image-image.ensures.present at c.sector.ensures.value in
    rw (← c.in_ok-name.ensures, ← at, ← bytes) (c.store.ensures c.args.session.now)
