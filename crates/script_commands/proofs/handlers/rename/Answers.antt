use Rattle.script_lines.proofs.TextArguments.{Does-read}
use Rattle.script_commands.proofs.handlers.rename.Goals as goal

pub returns : goal.returns
returns c = λ host.
    Does-read _ _ _ c.in_ok-old.old host _ _ _ (rw c.as_bytes.ensures.value at c.in_ok-old.ensures)
    (Does-read _ _ _ c.in_ok-new.new host _ _ _ (rw c.as_bytes-2.ensures.value at c.in_ok-new.ensures) (c.run_command.ensures host))
