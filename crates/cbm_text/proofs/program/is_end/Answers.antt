use Rattle.std.proofs.Common.{arith}
use Rattle.cbm_text.proofs.ProgramFiles.{end_read, not_end}
use Rattle.cbm_text.proofs.program.is_end.Goals as goal

pub returns-in-0 : goal.returns-in-0
returns-in-0 c = end_read c.args.bytes.now (omega arith) (omega arith) (omega arith)

pub returns-in_default : goal.returns-in_default
returns-in_default c = not_end c.args.bytes.now (λ (long, first, second). absurd (omega arith))

pub returns-in_default-2 : goal.returns-in_default-2
returns-in_default-2 c = not_end c.args.bytes.now (λ (long, first, second). absurd (omega arith))

pub returns-in_default-3 : goal.returns-in_default-3
returns-in_default-3 c = not_end c.args.bytes.now (λ (long, first, second). absurd (omega arith))
