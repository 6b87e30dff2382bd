use Rattle.std.proofs.Common.{◌≡◌, drop}
use Rattle.std.specs.Prelude.{find}
use Rattle.script_lines.specs.LineCommand.{commands}
use Rattle.script_advice.specs.Near.{has_name_near}
use Rattle.script_advice.proofs.near.first_near.Given as goal

-- none of the commands before is such a one
abbrev pub invariant-loop-command : goal.invariant-loop-command
invariant-loop-command l = find (has_name_near l.name) (drop l.command-index l.command-items) ≡ find (has_name_near l.name) commands
