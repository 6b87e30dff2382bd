use Rattle.std.proofs.Common.{inl, inr, arith}
use Rattle.std.proofs.lemmas.Bool.{cases_lt}
use Rattle.std.specs.Str.{str_to_ascii_lowercase}
use Rattle.petscii.proofs.Tables.{control_low}
use Rattle.petscii.proofs.control.code_of_name.Goals as goal

pub returns : goal.returns
returns c code small is = elim (cases_lt code 160) [
  | inl low ↦ c.loop-code.invariant code (omega arith) is
  | inr high ↦ control_low code high small (str_to_ascii_lowercase c.args.name.now) is
]
