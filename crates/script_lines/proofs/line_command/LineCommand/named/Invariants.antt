use Rattle.std.proofs.Common.{◌≡◌, drop}
use Rattle.std.specs.Prelude.{find}
use Rattle.std.specs.Str.{bytes_eq}
use Rattle.script_lines.specs.LineCommand.{command_name, command_named}
use Rattle.script_lines.proofs.line_command.LineCommand.named.Given as goal

-- none of the commands before has the name
abbrev pub invariant-loop-command : goal.invariant-loop-command
invariant-loop-command l = find (λ command. bytes_eq l.name (command_name command)) (drop l.command-index l.command-items) ≡ command_named l.name
