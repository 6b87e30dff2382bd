use Rattle.script_lines.proofs.TextArguments.{Reads-fault}
use Rattle.script_lines.proofs.arguments.bytes_in.Goals as goal

pub returns-in-Err-clause-read : goal.returns-in-Err-clause-read
returns-in-Err-clause-read c = rw c.from.ensures (Reads-fault c.args.argument.now c.in-Err.fault c.one_outcome.ensures.no_fault c.in-Err.ensures.fault)
