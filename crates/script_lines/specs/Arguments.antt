-- The values of the arguments of a line, or the status that refuses them.
use Rattle.std.specs.Prelude.{ℕ, ◌+◌, ◌==◌, nat_lt, nat_le, List, [], ◌∷◌, length, take, drop, find, position, codes, ◌&&◌, Bool, not, if◌then◌else◌, Option, Some, None, option_map, unwrap_or, Result, Ok, Err, ok_or}
use Rattle.d64_image.specs.Disk.{Bytes, Disk}
use Rattle.std.specs.List.{after_last}
use Rattle.std.specs.Option.{option_map_or}
use Rattle.std.specs.Str.{bytes_eq}
use Rattle.d64_files.specs.Chain as chains
use Rattle.d64_files.specs.Label.{holds_any_of}
use Rattle.d64_files.specs.Name.{forbidden_in_names}
use Rattle.d64_files.specs.declared.kind.Kind.{Kind}
use Rattle.d64_files.specs.declared.kind.Kind.TheVariants.{Seq, Prg, Usr, Rel}
use Rattle.petscii.specs.declared.fault.TextFault.{TextFault}
use Rattle.petscii.specs.declared.fault.TextFault.TheVariants.{Memory}
use Rattle.script_text.specs.Number.{number_of}
use Rattle.script_lines.specs.declared.status.Status.{Status}
use Rattle.script_lines.specs.declared.status.Status.TheVariants.{SyntaxError, BadName, IllegalBlock, OutOfMemory}

-- the name of a host file: 1 to 255 bytes
unfoldable pub host_in : Bytes → Result Bytes Status
host_in argument = if nat_lt 0 (length argument) && nat_le (length argument) 255 then Ok argument else Err BadName

-- the number in an argument
unfoldable pub number_in : Bytes → Result ℕ Status
number_in argument = ok_or (number_of argument) SyntaxError

-- the block of a track and sector, if both are numbers and the image has it
abbrev pub block_by : Disk → Result ℕ Status → Result ℕ Status → Result ℕ Status
block_by image (Err status) sector = Err status
block_by image (Ok track) (Err status) = Err status
block_by image (Ok track) (Ok sector) = ok_or (chains.block_in image track sector) (IllegalBlock track sector)

-- the same of two arguments
unfoldable pub block_argument : Disk → Bytes → Bytes → Result ℕ Status
block_argument image track sector = block_by image (number_in track) (number_in sector)

-- the status of a fault of an argument in text form
abbrev pub status_of_text : TextFault → Status
status_of_text (Memory error) = OutOfMemory
status_of_text fault = BadName

-- an argument split in two at its first comma
unfoldable pub at_comma : Bytes → Option (Bytes × Bytes)
at_comma argument = option_map (λ place. (take place argument, drop (place + 1) argument)) (position (λ byte. byte == 44) argument)

-- whether bytes can be a disk's id: two, both allowed in names
abbrev pub can_be_id : Bytes → Bool
can_be_id bytes = (length bytes == 2) && not (holds_any_of forbidden_in_names bytes)

-- the kinds by their letters
abbrev pub letters_of_kinds : List (Bytes × Kind)
letters_of_kinds = (codes "p", Prg) ∷ (codes "s", Seq) ∷ (codes "u", Usr) ∷ (codes "l", Rel) ∷ []

-- the kind of a letter
abbrev pub kind_of_letter : Bytes → Option Kind
kind_of_letter argument = option_map (λ row. row.1) (find (λ row. bytes_eq argument row.0) letters_of_kinds)

-- a name, and the kind of a letter; PRG without one
abbrev pub with_kind : Bytes → Option (Bytes × Bytes) → Result (Bytes × Kind) Status
with_kind argument None = Ok (argument, Prg)
with_kind argument (Some parts) = ok_or (option_map (λ kind. (parts.0, kind)) (kind_of_letter parts.1)) SyntaxError

-- a name, and a kind after the first comma; PRG without one
abbrev pub name_and_kind_in : Bytes → Result (Bytes × Kind) Status
name_and_kind_in argument = with_kind argument (at_comma argument)

-- what follows an argument's last `/`, or all of it
unfoldable pub after_slash : Bytes → Bytes
after_slash argument = after_last (λ byte. byte == 47) argument

-- a new file's name: an argument, or by default its host file's without folders
abbrev pub new_name : Bytes → Option Bytes → Bytes
new_name host argument = unwrap_or argument (after_slash host)

-- a new file's name and kind, by its argument, or by default its host file's own name and PRG
abbrev pub name_and_kind_of : Bytes → Option Bytes → Result (Bytes × Kind) Status
name_and_kind_of host argument = option_map_or name_and_kind_in argument (Ok (after_slash host, Prg))
