use Rattle.std.proofs.Common.{rules, append_assoc}
use Rattle.script_lines.specs.Status.{status_line}
use Rattle.script_lines.proofs.status.Status.line.Goals as goal

pub returns : goal.returns
unfolding status_line
returns c = search (rules, append_assoc)
