-- The command whose name is near one that is no command. Capitals and small letters count as the
-- same.
use Rattle.std.specs.Prelude.{◌&&◌, ◌||◌, nat_le, Bool, false, if◌then◌else◌, [], ◌∷◌, length, find, Option}
use Rattle.std.specs.Char.{eq_ignore_ascii_case}
use Rattle.std.specs.Option.{option_or}
use Rattle.std.specs.Str.{str_eq_ignore_ascii_case}
use Rattle.d64_image.specs.Disk.{Bytes}
use Rattle.script_lines.specs.LineCommand.{commands, command_name}
use Rattle.script_lines.specs.declared.line_command.LineCommand.{LineCommand}

-- the first two characters of two texts are exchanged, and the rest is the same
abbrev pub are_exchanged : Bytes → Bytes → Bool
are_exchanged (first ∷ second ∷ more) (other ∷ another ∷ rest) =
    eq_ignore_ascii_case first another && eq_ignore_ascii_case second other && str_eq_ignore_ascii_case more rest
are_exchanged left right = false

-- two texts differ in their first character alone, or one of them lacks the other's, or the first
-- two are exchanged
abbrev pub differ_once : Bytes → Bytes → Bool
differ_once (first ∷ more) (second ∷ rest) =
    str_eq_ignore_ascii_case more rest
    || (str_eq_ignore_ascii_case (first ∷ more) rest
    || (str_eq_ignore_ascii_case more (second ∷ rest)
    || are_exchanged (first ∷ more) (second ∷ rest)))
differ_once left right = false

-- two names are near: they are the same but for one difference, where they first differ, or but
-- for one more character at the end
abbrev pub is_near : Bytes → Bytes → Bool
is_near [] other = nat_le (length other) 1
is_near name [] = nat_le (length name) 1
is_near (first ∷ more) (second ∷ rest) =
    if eq_ignore_ascii_case first second then is_near more rest else differ_once (first ∷ more) (second ∷ rest)

-- a command has this name in other letters
abbrev pub has_name_of : Bytes → LineCommand → Bool
has_name_of name command = str_eq_ignore_ascii_case name (command_name command)

-- a command's name is near
abbrev pub has_name_near : Bytes → LineCommand → Bool
has_name_near name command = is_near name (command_name command)

-- the command of this name in other letters, or else the first one whose name is near
abbrev pub near_command : Bytes → Option LineCommand
near_command name = option_or (find (has_name_of name) commands) (find (has_name_near name) commands)
