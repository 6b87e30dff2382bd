use Rattle.script_lines.proofs.TextArguments.{Does-read}
use Rattle.script_commands.proofs.handlers.petcat.Goals as goal

pub returns : goal.returns
returns c = λ host. Does-read _ _ _ c.in_ok-pattern.pattern host _ _ _ c.in_ok-pattern.ensures (c.show_program.ensures host)
