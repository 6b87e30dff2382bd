use Rattle.std.proofs.Common.{◌≡◌, ◌++◌}
use Rattle.std.specs.List.{flat_map}
use Rattle.d64_survey.specs.ReadErrors.{read_error_at, read_errors}
use Rattle.d64_survey.proofs.dump.Dump.list_read_errors.Given as goal

abbrev pub invariant-loop-block : goal.invariant-loop-block
invariant-loop-block l = l.errors.items ++ flat_map (read_error_at l.self.codes) l.block-iterator ≡ read_errors l.self
