use Rattle.std.proofs.Common.{ap, inr}
use Rattle.host_storage.specs.Input.{reading_of}
use Rattle.program_console.specs.Outside.{account_at, outside_at}
use Rattle.cmd_shell.specs.Scripts.{beginning_in, options_in, source_in}
use Rattle.cmd_shell.proofs.ShellRuns.{due_reported, stopped_reported}
use Rattle.d64_shell.proofs.JobEnds.{reports_after}
use Rattle.d64_shell.proofs.entry.ObservedProgram.run_script.Goals as goal

-- a fault stopped the script
pub returns-in-Err-clause-ended : goal.returns-in-Err-clause-ended
returns-in-Err-clause-ended g c =
    let source = source_in c.args.job in
    let old = outside_at g.R.Read.remaining g.W.Write.contents g.F.Write.contents c.args.console.now (g.H.Host.state c.args.host.now) in
    let ran = c.run.new.console in
    let reader = g.R.Read.remaining ran.input.reader.now in
    let reading = reading_of ran.input.reads ran.input.came ran.input.has_failed in
    let output = account_at g.W.Write.contents ran.outputs.output in
    let error = account_at g.F.Write.contents ran.outputs.faults in
    let reported = account_at g.F.Write.contents c.report_on.new.faults in
    inr (
      c.in-Err.fault,
      stopped_reported c.in-Err.fault (beginning_in c.args.job) source (options_in c.args.job) old reader reading output error reported (g.H.Host.state c.run.new.host) c.in-Err.ensures.stopped,
      due_reported c.in-Err.fault source reader reading output error reported (g.H.Host.state c.run.new.host) c.in-Err.ensures.due,
      reports_after c.in-Err.fault _ error reported c.report_on.result (ap (account_at g.F.Write.contents) c.run.ensures.silent) c.report_on.ensures.reported,
    )
