use Rattle.cmd_shell.proofs.ScriptHistories.{scripts-keep_disks_sound}
use Rattle.cmd_shell.proofs.laws.scripts_keep_disks_sound.Goals as goal

pub returns : goal.returns
returns c = scripts-keep_disks_sound
