use Rattle.std.proofs.Common.{ap, refl}
use Rattle.program_surveys.specs.Runs.{run_state_at}
use Rattle.program_surveys.specs.declared.report.Verdict.{Verdict}
use Rattle.program_surveys.proofs.RunEnds.{run_ended}
use Rattle.program_surveys.proofs.whole_task.run_whole.Goals as goal

-- the task came to its end
pub returns-in-Ok-clause-ended : goal.returns-in-Ok-clause-ended
returns-in-Ok-clause-ended g c =
    run_ended _ _ _ _ _ _ _ c.worst.result
    (ap (λ (w : Verdict). run_state_at g.W.Write.contents g.F.Write.contents c.args.console.now.outputs (g.H.Host.state c.args.host.now) w) c.new-batch.ensures)
    c.in-Ok.ensures.ended refl refl refl c.worst.ensures (refl, c.exit_status.ensures)

-- or to a fault
pub returns-clause-ended : goal.returns-clause-ended
returns-clause-ended g c =
    run_ended _ _ _ _ _ _ _ _
    (ap (λ (w : Verdict). run_state_at g.W.Write.contents g.F.Write.contents c.args.console.now.outputs (g.H.Host.state c.args.host.now) w) c.new-batch.ensures)
    c.in-Err.ensures.ended refl refl refl refl (rw c.from.ensures at c.report_on.ensures.reported)
