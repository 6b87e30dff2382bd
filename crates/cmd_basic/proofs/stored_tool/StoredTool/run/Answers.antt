-- The input was had and what the tool made of it stored or not, or the run ended before.
use Rattle.std.proofs.Common.{List, ℕ, Err, refl, ap, subst, option_copied}
use Rattle.program_console.specs.Outside.{account_at}
use Rattle.cmd_basic.specs.ToolRuns.{ReportsStored}
use Rattle.cmd_basic.specs.Tools.{HasStored}
use Rattle.cmd_basic.proofs.StoredRuns.{ended_with_input, ended_without_input, stored_not_read}
use Rattle.cmd_basic.proofs.stored_tool.StoredTool.run.Goals as goal

pub returns-in-Ok-clause-ended : goal.returns-in-Ok-clause-ended
returns-in-Ok-clause-ended g c =
    let tool = c.args.self.tool in
    let name = option_copied c.args.self.file in
    let target = c.args.self.target.now in
    let outcome = c.store-outcome.result in
    let host = g.H.Host.state c.taken.new.host in
    let last = g.H.Host.state c.store-outcome.new.host in
    let stored : HasStored tool c.in-Ok.bytes.items target host last outcome =
    subst (λ (bytes : List ℕ). HasStored tool bytes target host last outcome) c.as_slice.ensures.value c.store-outcome.ensures.stored in
    ended_with_input tool name target _ _ host c.report.result c.in-Ok.bytes.items outcome
    c.in-Ok.ensures.bytes stored (stored_not_read tool c.in-Ok.bytes.items target host last outcome stored) refl
    (subst (λ (bytes : List ℕ). ReportsStored tool name bytes target last.files outcome (account_at g.F.Write.contents c.args.console.now.outputs.faults) (account_at g.F.Write.contents c.report.new.faults) c.report.result)
    c.as_slice-in-Ok.ensures.value c.report.ensures.reported)

pub returns-in-Err-clause-ended : goal.returns-in-Err-clause-ended
returns-in-Err-clause-ended g c =
    ended_without_input c.args.self.tool (option_copied c.args.self.file) c.args.self.target.now _ _ c.report-in-Err.result c.in-Err.fault
    c.in-Err.ensures.fault refl (λ none is. c.in-Err.ensures.reads none (ap Err is)) c.report-in-Err.ensures.reported
