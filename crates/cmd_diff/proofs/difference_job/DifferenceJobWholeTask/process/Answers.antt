use Rattle.std.proofs.Common.{rules}
use Rattle.program_surveys.specs.FileOutcomes.{FileOutcome}
use Rattle.cmd_diff.proofs.ComparisonRuns.{compared, wants_memory, was_cut}
use Rattle.cmd_diff.proofs.difference_job.DifferenceJobWholeTask.process.Goals as goal

-- there was no memory for a report
pub returns-in_err-verdict-clause-ended : goal.returns-in_err-verdict-clause-ended
returns-in_err-verdict-clause-ended g c =
    wants_memory _ _ _ _ _ _ _ _ _ c.from_residual-in_err-verdict.result c.in_ok-old.ensures.read c.in_ok-new.ensures.read (search rules)

-- the output failed
pub returns-in_err-report_result-clause-ended : goal.returns-in_err-report_result-clause-ended
returns-in_err-report_result-clause-ended g c =
    let said : FileOutcome = record { printed = c.compare.new.buffer.printed.items; complaint = c.compare.new.buffer.complaint.items; verdict = c.in_ok-verdict.verdict } in
    was_cut _ _ _ _ _ _ _ _ _ _ said c.from_residual-in_err-report_result.result c.in_ok-old.ensures.read c.in_ok-new.ensures.read
    c.in_ok-verdict.ensures c.in_err-report_result.ensures.reported (search rules)

-- the result is written
pub returns-clause-ended : goal.returns-clause-ended
returns-clause-ended g c =
    let said : FileOutcome = record { printed = c.compare.new.buffer.printed.items; complaint = c.compare.new.buffer.complaint.items; verdict = c.in_ok-verdict.verdict } in
    compared _ _ _ _ _ _ _ _ _ _ said c.in_ok-old.ensures.read c.in_ok-new.ensures.read c.in_ok-verdict.ensures c.in_ok-report_result.ensures.reported
