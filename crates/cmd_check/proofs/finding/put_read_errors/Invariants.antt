use Rattle.std.proofs.Common.{drop}
use Rattle.cmd_check.specs.Findings.{read_error_object}
use Rattle.out_json_csv.proofs.Arrays.{ArrayBegun}
use Rattle.cmd_check.proofs.finding.put_read_errors.Given as goal

abbrev pub invariant-loop-error : goal.invariant-loop-error
invariant-loop-error l = ArrayBegun (read_error_object l.survey) l.initial.writer l.writer l.errors (drop l.error-index l.errors)
