-- The script has run from its beginning, and a flush of the output changes none of its bytes.
use Rattle.std.proofs.Common.{◌≡◌, Ok, Err, inl, inr, refl, sym, ap, subst, option_copied, rules}
use Rattle.cmd_shell.specs.Beginnings.{source_by}
use Rattle.host_storage.specs.Input.{reading_of}
use Rattle.program_console.specs.Outside.{Outside, account_at, outside_at, outside_of}
use Rattle.cmd_shell.specs.ShellRuns.{StoppedBy}
use Rattle.cmd_shell.specs.Scripts.{beginning_in, options_in, source_in}
use Rattle.program_console.specs.declared.program_fault.ProgramFault.{ProgramFault}
use Rattle.cmd_shell.proofs.ShellRuns.{RanShell-flushed, reported_of-write}
use Rattle.cmd_shell.proofs.shell_job.ShellJob.run.Goals as goal

-- to its end
pub returns-in-Ok-ran-clause-ran : goal.returns-in-Ok-ran-clause-ran
returns-in-Ok-ran-clause-ran g c =
    let job = c.args.self in
    let options : record { home = option_copied c.home.result; refusals = job.refusals } ≡ options_in job =
    ap (λ h. record { home = h; refusals = job.refusals }) c.home.ensures in
    let source : source_by (option_copied c.as_deref.result) ≡ source_in job = search rules in
    let old : Outside = outside_at g.R.Read.remaining g.W.Write.contents g.F.Write.contents c.args.console.now (g.H.Host.state c.args.host.now) in
    let ran_on = c.run-ran.new.console in
    let new : Outside = outside_of (g.R.Read.remaining ran_on.input.reader.now) (reading_of ran_on.input.reads ran_on.input.came ran_on.input.has_failed)
    (account_at g.W.Write.contents c.flush.new.self) (account_at g.F.Write.contents ran_on.outputs.faults) (g.H.Host.state c.run-ran.new.host) in
    let is : c.run-ran.result ≡ Ok c.in-Ok-ran.outcome = search rules in
    RanShell-flushed old new (Ok c.in-Ok-ran.outcome) (beginning_in job) (source_in job) (source_by (option_copied c.as_deref.result))
    (options_in job) (record { home = option_copied c.home.result; refusals = job.refusals })
    (g.H.Host.state c.first_session.new.host)
    c.in_ok-session.session c.run-ran.new.session (g.W.Write.contents c.run-ran.new.console.outputs.output.writer.now)
    c.in_ok-session.ensures.session source options (rw is at c.run-ran.ensures.ran) c.flush.ensures.kept

-- up to a fault
pub returns-in-Ok-clause-stopped : goal.returns-in-Ok-clause-stopped
returns-in-Ok-clause-stopped g c =
    let job = c.args.self in
    let options : record { home = option_copied c.home.result; refusals = job.refusals } ≡ options_in job =
    ap (λ h. record { home = h; refusals = job.refusals }) c.home.ensures in
    let source : source_by (option_copied c.as_deref.result) ≡ source_in job = search rules in
    let old : Outside = outside_at g.R.Read.remaining g.W.Write.contents g.F.Write.contents c.args.console.now (g.H.Host.state c.args.host.now) in
    let ran_on = c.run-ran.new.console in
    let new : Outside = outside_of (g.R.Read.remaining ran_on.input.reader.now) (reading_of ran_on.input.reads ran_on.input.came ran_on.input.has_failed)
    (account_at g.W.Write.contents c.flush.new.self) (account_at g.F.Write.contents ran_on.outputs.faults) (g.H.Host.state c.run-ran.new.host) in
    let is : c.run-ran.result ≡ Err c.in-Err-ran.fault = search rules in
    let ran = RanShell-flushed old new (Err c.in-Err-ran.fault) (beginning_in job) (source_in job) (source_by (option_copied c.as_deref.result))
    (options_in job) (record { home = option_copied c.home.result; refusals = job.refusals })
    (g.H.Host.state c.first_session.new.host)
    c.in_ok-session.session c.run-ran.new.session (g.W.Write.contents c.run-ran.new.console.outputs.output.writer.now)
    c.in_ok-session.ensures.session source options (rw is at c.run-ran.ensures.ran) c.flush.ensures.kept in
    subst (λ (fault : ProgramFault). StoppedBy fault (beginning_in job) (source_in job) (options_in job) old new)
    (sym c.fault_of_run.ensures) (inr (inr (Err c.in-Err-ran.fault, ran, inl refl)))

-- and the flush failed
pub returns-clause-stopped : goal.returns-clause-stopped
returns-clause-stopped g c =
    let job = c.args.self in
    let options : record { home = option_copied c.home.result; refusals = job.refusals } ≡ options_in job =
    ap (λ h. record { home = h; refusals = job.refusals }) c.home.ensures in
    let source : source_by (option_copied c.as_deref.result) ≡ source_in job = search rules in
    let old : Outside = outside_at g.R.Read.remaining g.W.Write.contents g.F.Write.contents c.args.console.now (g.H.Host.state c.args.host.now) in
    let ran_on = c.run-ran.new.console in
    let new : Outside = outside_of (g.R.Read.remaining ran_on.input.reader.now) (reading_of ran_on.input.reads ran_on.input.came ran_on.input.has_failed)
    (account_at g.W.Write.contents c.flush.new.self) (account_at g.F.Write.contents ran_on.outputs.faults) (g.H.Host.state c.run-ran.new.host) in
    inr (inr (
      c.run-ran.result,
      RanShell-flushed old new c.run-ran.result (beginning_in job) (source_in job) (source_by (option_copied c.as_deref.result))
          (options_in job) (record { home = option_copied c.home.result; refusals = job.refusals })
          (g.H.Host.state c.first_session.new.host)
          c.in_ok-session.session c.run-ran.new.session (g.W.Write.contents c.run-ran.new.console.outputs.output.writer.now)
          c.in_ok-session.ensures.session source options c.run-ran.ensures.ran c.flush.ensures.kept,
      reported_of-write c.run-ran.result,
    ))
