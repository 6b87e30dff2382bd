-- What is said to be wrong with a refused line.
use Rattle.std.specs.Prelude.{◌≡◌, ◌⊎◌, ◌++◌, Option}
use Rattle.d64_image.specs.Disk.{Bytes, Disk}
use Rattle.host_storage.specs.Files.{Files, HostState}
use Rattle.program_console.specs.declared.reason.Reason.{Reason}
use Rattle.script_lines.specs.declared.status.Status.{Status}
use Rattle.script_advice.specs.Advice.{advice, advice_text}
use Rattle.script_advice.specs.HostReason.{IsHostReason}
use Rattle.script_advice.specs.LineParts.{LineParts}
use Rattle.script_advice.specs.Lost.{IsLostLine}
use Rattle.script_advice.specs.TextCause.{IsFoundLine}

-- the line about what is wrong with the text of a name, or why what was deleted under it is lost
abbrev pub IsCauseLine : HostState → Disk → Bytes → Bytes → Status → Bytes → Type 0
IsCauseLine host image start name status line = IsFoundLine host start name status line ⊎ IsLostLine image start name status line

-- the advice about such a line, by what a host with these files can say
abbrev pub IsAdviceLine : Option Files → Bytes → LineParts → Status → Bytes → Type 0
IsAdviceLine files start parts status line = (reason : Option Reason) × IsHostReason files parts status reason × (line ≡ start ++ advice_text parts (advice parts status reason))

-- what may be said, after a start, of a line with this command and these arguments that was refused
-- with a status and left an image: such a line, or the advice, with the reason for which its host
-- file cannot be read or written, if the host can say it
abbrev pub MaySay : HostState → Disk → Bytes → LineParts → Status → Bytes → Type 0
MaySay host image start parts status line = IsCauseLine host image start parts.first status line ⊎ IsAdviceLine host.files start parts status line
