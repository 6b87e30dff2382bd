use Rattle.cmd_extract.proofs.QuietWork.{clean_is_quiet}
use Rattle.cmd_extract.proofs.unpack_laws.clean_images_are_quiet.Goals as goal

pub returns : goal.returns
returns c = clean_is_quiet
