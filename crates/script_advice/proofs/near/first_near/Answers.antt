use Rattle.std.proofs.Common.{rules, ◌∙◌, sym}
use Rattle.script_lines.specs.LineCommand.{commands}
use Rattle.script_lines.proofs.Finding.{found_at, none_found, passed_at}
use Rattle.script_advice.specs.Near.{has_name_near}
use Rattle.script_advice.proofs.near.first_near.Goals as goal

-- such a command is found
pub returns-then-has_name_near : goal.returns-then-has_name_near
returns-then-has_name_near c =
    found_at (has_name_near c.args.name.now) commands c.loop-command.command-index _ _ (search rules) (sym c.has_name_near.ensures ∙ c.if-has_name_near.true) c.loop-command.invariant

-- another one is passed over
pub loop-command-preserved : goal.loop-command-preserved
loop-command-preserved c =
    passed_at (has_name_near c.args.name.now) commands c.loop-command.command-index _ _ (search rules) (sym c.has_name_near.ensures ∙ c.if-has_name_near.false) c.loop-command.invariant

-- there is none
pub returns : goal.returns
returns c = none_found (has_name_near c.args.name.now) commands c.loop-command.command-index _ (search rules) c.loop-command.invariant
