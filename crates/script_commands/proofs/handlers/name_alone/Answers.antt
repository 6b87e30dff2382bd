use Rattle.script_lines.proofs.TextArguments.{Does-read}
use Rattle.script_commands.proofs.handlers.name_alone.Goals as goal

pub returns : goal.returns
returns c = λ host. Does-read _ _ _ c.in_ok-name.name host _ _ _ c.in_ok-name.ensures (c.run_command.ensures host)
