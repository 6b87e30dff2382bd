use Rattle.std.proofs.Common.{ap, Err}
use Rattle.d64_survey.specs.Dump.{wrong_dump_length}
use Rattle.d64_survey.specs.declared.dump.DumpFault.{DumpFault}
use Rattle.d64_g64.proofs.Dumps.{no_part}
use Rattle.cmd_diff.proofs.dump_buffer.refill.Goals as goal

pub returns-in-Ok : goal.returns-in-Ok
returns-in-Ok c = c.in-Ok.ensures.filled

pub returns-in-Err-WrongLength : goal.returns-in-Err-WrongLength
returns-in-Err-WrongLength c =
    (no_part _ _ _ _ (ap (λ (f : DumpFault). wrong_dump_length {A = Unit {0}} (Err f)) c.in-Err-WrongLength.field-0-is) c.in-Err-WrongLength.ensures.refused)
