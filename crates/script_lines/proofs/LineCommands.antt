-- A command is found by its name alone.
use Rattle.std.proofs.Common.{◌≡◌, ℕ, List, Some}
use Rattle.std.specs.Str.{bytes_eq}
use Rattle.std.proofs.lemmas.Slice.Eq.{bytes_eq-Decides}
use Rattle.script_lines.specs.LineCommand.{commands, command_name, command_named}
use Rattle.script_lines.specs.declared.line_command.LineCommand.{LineCommand}
use Rattle.script_lines.proofs.Finding.{found_passes}

-- the command that a name finds has that name
pub command_named-name : (name : List ℕ) (command : LineCommand) → command_named name ≡ Some command → name ≡ command_name command
command_named-name name command is =
    (bytes_eq-Decides name (command_name command)).0 (found_passes (λ command. bytes_eq name (command_name command)) commands command is)
