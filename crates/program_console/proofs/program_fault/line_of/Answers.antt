-- The line is that of the text, joined in the same order.
use Rattle.std.proofs.Common.{rules, append_assoc}
use Rattle.program_console.specs.Faults.{line_with}
use Rattle.program_console.proofs.program_fault.line_of.Goals as goal

pub returns : goal.returns
unfolding line_with
returns c = search (rules, append_assoc)
