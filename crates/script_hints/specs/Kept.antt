-- What the host has of a session, and when changes are not saved.
use Rattle.std.specs.Prelude.{◌≡◌, ◌⊎◌, [], Bool, true, not, if◌then◌else◌, ◌==◌, length, Option, Some, None, option_map, codes}
use Rattle.std.specs.Option.{option_eq}
use Rattle.std.specs.Str.{bytes_eq}
use Rattle.sha2.specs.Sha256.{sha256}
use Rattle.d64_image.specs.Disk.{Bytes, Disk}
use Rattle.d64_image.specs.Image.{bytes_of}
use Rattle.script_advice.specs.Found.{IsDefaultName}
use Rattle.script_advice.specs.LineParts.{LineParts}
use Rattle.script_lines.specs.LineCommand.{command_named}
use Rattle.script_lines.specs.declared.line_command.LineCommand.{LineCommand}
use Rattle.script_lines.specs.declared.line_command.LineCommand.TheVariants.{BlockRead, Keep, Read, Save}
use Rattle.script_hints.specs.declared.kept.Kept.{Kept}

-- the effect of an accepted line on the files that may have the image: it stores the image in one,
-- or something else, or neither
pub data Effect : Type 0 where
  Holds : Option Bytes → Effect
  Replaces : Bytes → Effect
  Nothing : Effect

-- an image that the file with a name has, or that has no file since it is blank
abbrev pub kept_in : Disk → Option Bytes → Kept
kept_in image name = record { image = sha256 (bytes_of image); file = option_map sha256 name }

-- what the host has after something else was stored in the file with a name: nothing if that one
-- had the image
abbrev pub unless_replaced : Option Kept → Bytes → Option Kept
unless_replaced None name = None
unless_replaced (Some kept) name = if option_eq bytes_eq kept.file (Some (sha256 name)) then None else Some kept

-- what the host has after an accepted line that left an image
abbrev pub kept_after : Option Kept → Effect → Disk → Option Kept
kept_after kept (Holds name) image = Some (kept_in image name)
kept_after kept (Replaces name) image = unless_replaced kept name
kept_after kept Nothing image = kept

-- whether the host has another image, or none
abbrev pub is_unsaved : Option Kept → Disk → Bool
is_unsaved None image = true
is_unsaved (Some kept) image = not (bytes_eq kept.image (sha256 (bytes_of image)))

-- the effect of an accepted line of a command, by the names under which `save` and `read` store by
-- default
abbrev pub effect_by : Option Bytes → Bytes → LineParts → Option LineCommand → Effect
effect_by home found parts (Some Save) = Holds (if length parts.first == 0 then home else Some parts.first)
effect_by home found parts (Some Keep) = Holds (Some parts.first)
effect_by home found parts (Some Read) = Replaces (if length parts.second == 0 then found else parts.second)
effect_by home found parts (Some BlockRead) = Replaces parts.first
effect_by home found parts command = Nothing

-- the effect of an accepted line with these arguments
abbrev pub effect_of : Option Bytes → Bytes → LineParts → Effect
effect_of home found parts = effect_by home found parts (command_named parts.command)

-- the name under which `read` stores by default a file that this argument finds; empty if there is
-- no such file, or memory was out
abbrev pub MayBeDefault : Disk → Bytes → Bytes → Type 0
MayBeDefault image argument found = IsDefaultName image argument (Some found) ⊎ (found ≡ [])

-- the line that says that changes are not saved
abbrev pub unsaved_line : Bytes
unsaved_line = codes "d64sh: changes are not saved\n"
