use Rattle.d64_dos.proofs.Steps.{keeps_sound}
use Rattle.d64_dos.proofs.laws.file_commands_keep_disks_sound.Goals as goal

pub returns : goal.returns
returns c = keeps_sound
