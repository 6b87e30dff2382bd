use Rattle.script_lines.proofs.TextArguments.{Does-read}
use Rattle.script_commands.proofs.handlers.name_with_id.Goals as goal

pub returns : goal.returns
returns c = λ host.
    Does-read _ _ _ c.in_ok-name.name host _ _ _ c.in_ok-name.ensures
    (Does-read _ _ _ c.in_ok-id.id host _ _ _ c.in_ok-id.ensures (c.run_command.ensures host))
