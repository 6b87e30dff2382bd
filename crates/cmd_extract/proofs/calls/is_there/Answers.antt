use Rattle.std.proofs.Common.{refl}
use Rattle.cmd_extract.proofs.calls.is_there.Goals as goal

pub returns : goal.returns
returns g c = (c.is_there.ensures.returned, refl)
