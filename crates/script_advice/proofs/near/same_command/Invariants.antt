use Rattle.std.proofs.Common.{◌≡◌, drop}
use Rattle.std.specs.Prelude.{find}
use Rattle.script_lines.specs.LineCommand.{commands}
use Rattle.script_advice.specs.Near.{has_name_of}
use Rattle.script_advice.proofs.near.same_command.Given as goal

-- none of the commands before is such a one
abbrev pub invariant-loop-command : goal.invariant-loop-command
invariant-loop-command l = find (has_name_of l.name) (drop l.command-index l.command-items) ≡ find (has_name_of l.name) commands
