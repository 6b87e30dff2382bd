-- The lines that made the changes of a session, and what is said when one is undone or redone.
use Rattle.std.specs.Prelude.{⊤, ◌≡◌, ℕ, Bool, true, false, ◌<◌, ◌-◌, ◌⊎◌, ◌++◌, nat_lt, if◌then◌else◌, Option, Some, None, option_map, codes}
use Rattle.std.specs.List.{slice_get}
use Rattle.std.specs.Option.{option_map_or}
use Rattle.d64_image.specs.Disk.{Bytes}
use Rattle.script_lines.specs.LineCommand.{command_named}
use Rattle.script_lines.specs.declared.line_command.LineCommand.{LineCommand}
use Rattle.script_lines.specs.declared.line_command.LineCommand.TheVariants.{Quit, Redo, Undo}
use Rattle.script_advice.specs.LineParts.{parts_of_line}
use Rattle.script_hints.specs.declared.past.Past.{Past}

-- the line that made the change with a number, counted from 0, if there is one
abbrev pub known_line : Past → ℕ → Option Bytes
known_line past number = if nat_lt number past.first then None else option_map (λ line. line.items) (slice_get past.lines.items (number - past.first))

-- what is known of a change after a line made the one with this number: of the one itself the line,
-- of earlier ones nothing else than before, and of later ones nothing
abbrev pub IsKnownAfter : Past → ℕ → Bytes → ℕ → Option Bytes → Type 0
IsKnownAfter old number line other None = ⊤
IsKnownAfter old number line other (Some found) = ((other < number) × (known_line old other ≡ Some found)) ⊎ ((other ≡ number) × (found ≡ line))

-- whether a line of a command made a change, by how many were made before it and are made now;
-- `redo` makes one again
abbrev pub makes_change : Option LineCommand → ℕ → ℕ → Bool
makes_change (Some Undo) before now = false
makes_change (Some Redo) before now = false
makes_change (Some Quit) before now = false
makes_change command before now = nat_lt before now

-- the lines that are known after a line: if it made the change with this number, what is known then,
-- and else the same as before
abbrev pub IsPastAfter : Bool → ℕ → Bytes → Past → Past → Type 0
IsPastAfter true number line old new = (other : ℕ) → IsKnownAfter old number line other (known_line new other)
IsPastAfter false number line old new = new ≡ old

-- the command of a line
unfoldable pub command_of : Bytes → Option LineCommand
command_of raw = command_named (parts_of_line raw).command

-- after a start, the line that made a change, or that it is not known
abbrev pub change_line : Bytes → Option Bytes → Bytes
change_line start line = start ++ (option_map_or (λ known. known) line (codes "a change whose line is not known") ++ codes "\n")

-- that a change was undone
abbrev pub undone_line : Option Bytes → Bytes
undone_line line = change_line (codes "  taken back: ") line

-- that a change was redone
abbrev pub redone_line : Option Bytes → Bytes
redone_line line = change_line (codes "  done again: ") line
