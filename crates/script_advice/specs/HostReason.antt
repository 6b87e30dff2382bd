-- Why the host file of a refused line cannot be read or written.
use Rattle.std.specs.Prelude.{◌≡◌, nat_lt, Bool, true, false, Option, None}
use Rattle.d64_image.specs.Disk.{Bytes}
use Rattle.host_storage.specs.Files.{Files}
use Rattle.host_storage.specs.declared.host.HostFault.TheVariants.{Device}
use Rattle.program_console.specs.Reasons.{IsReason, IsWriteReason}
use Rattle.program_console.specs.declared.reason.Reason.{Reason}
use Rattle.script_lines.specs.LineCommand.{command_named}
use Rattle.script_lines.specs.declared.line_command.LineCommand.{LineCommand}
use Rattle.script_lines.specs.declared.status.Status.{Status}
use Rattle.script_lines.specs.declared.status.Status.TheVariants.{HostFile}
use Rattle.script_advice.specs.Advice.{host_piece, piece_bytes, reads_host_file}
use Rattle.script_advice.specs.LineParts.{LineParts}

-- the name of the host file of a line of a command
abbrev pub host_file_name : LineParts → Option LineCommand → Bytes
host_file_name parts command = piece_bytes parts (host_piece parts command)

-- why a file with this name cannot be read, or be written, as far as a host with these files can say
abbrev pub IsFileReason : Bool → Option Files → Bytes → Option Reason → Type 0
IsFileReason true files name reason = IsReason files name Device reason
IsFileReason false files name reason = IsWriteReason files name reason

-- the same of the host file that a line names, if it names one
abbrev pub IsNamedReason : Bool → Option Files → LineParts → Option LineCommand → Option Reason → Type 0
IsNamedReason true files parts command reason = IsFileReason (reads_host_file command) files (host_file_name parts command) reason
IsNamedReason false files parts command reason = reason ≡ None

-- the same of a line that was refused with a status, if that is why it was refused
abbrev pub IsHostReason : Option Files → LineParts → Status → Option Reason → Type 0
IsHostReason files parts (HostFile Device) reason = IsNamedReason (nat_lt 1 parts.count) files parts (command_named parts.command) reason
IsHostReason files parts status reason = reason ≡ None
