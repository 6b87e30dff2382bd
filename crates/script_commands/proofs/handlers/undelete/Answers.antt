use Rattle.script_lines.proofs.TextArguments.{Does-read}
use Rattle.script_commands.proofs.handlers.undelete.Goals as goal

pub returns : goal.returns
returns c = λ host.
    rw (← c.as_bytes.ensures.value, ← c.in_ok-name.ensures)
    (Does-read _ _ _ c.in_ok-name-2.name host _ _ _ c.in_ok-name-2.ensures (c.run_command.ensures host))
