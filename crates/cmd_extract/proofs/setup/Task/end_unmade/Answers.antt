use Rattle.std.proofs.Common.{◌≡◌, List, ℕ, ap, ◌∙◌, subst}
use Rattle.std.specs.Prelude.{IfOk}
use Rattle.program_surveys.specs.declared.report.Verdict.{Verdict}
use Rattle.cmd_extract.specs.Setup.{ExtractSetupView, TaskView}
use Rattle.cmd_extract.specs.Work.{Done, outcome_in}
use Rattle.cmd_extract.specs.Unpacking.{unmade_outcome, unmade_work}
use Rattle.cmd_extract.proofs.Steps.{ends_after, ends_with, same_reason}
use Rattle.cmd_extract.proofs.FolderWork.{unmade_at, unmade_below}
use Rattle.cmd_extract.proofs.setup.Task.end_unmade.Goals as goal

pub returns-then-is_into_there : goal.returns-then-is_into_there
returns-then-is_into_there g c =
    let task = c.args.self.now in
    let host = g.H.Host.state c.args.host.now in
    let path = c.args.path.now in
    let reason = c.reason_at-reason.result in
    let why = same_reason c.as_bytes.result.now path host.files reason c.as_bytes.ensures.value c.reason_at-reason.ensures in
    let buffer = c.report_unmade.new.buffer in
    let into_is : c.deref.result.now ≡ task.setup.into = c.deref.ensures ∙ ap (λ (s : ExtractSetupView). s.into) c.setup.view_is ∙ ap (λ (t : TaskView). t.setup.into) c.self.view_is in
    ends_after c.report_unmade.result buffer (unmade_work task path) (Done (unmade_outcome task path reason)) host host host
    (unmade_at task path c.deref.result.now host c.is_there-is_into_there.result reason into_is c.is_there-is_into_there.ensures why c.if-is_into_there.true)
    (ends_with c.report_unmade.result buffer (unmade_outcome task path reason) host c.report_unmade.ensures)

pub returns-else-is_into_there : goal.returns-else-is_into_there
returns-else-is_into_there g c =
    let task = c.args.self.now in
    let host = g.H.Host.state c.args.host.now in
    let path = c.args.path.now in
    let reason = c.reason_at-reason.result in
    let why = same_reason c.as_bytes.result.now path host.files reason c.as_bytes.ensures.value c.reason_at-reason.ensures in
    let buffer = c.report_unmade-else-is_into_there.new.buffer in
    let into_is : c.deref.result.now ≡ task.setup.into = c.deref.ensures ∙ ap (λ (s : ExtractSetupView). s.into) c.setup.view_is ∙ ap (λ (t : TaskView). t.setup.into) c.self.view_is in
    let same_into : c.deref-else-is_into_there.result.now ≡ task.setup.into =
    c.deref-else-is_into_there.ensures ∙ ap (λ (s : ExtractSetupView). s.into) c.setup.view_is ∙ ap (λ (t : TaskView). t.setup.into) c.self.view_is in
    ends_after c.report_unmade-else-is_into_there.result buffer (unmade_work task path) (Done (unmade_outcome task task.setup.into reason)) host host host
    (unmade_below task path c.deref.result.now host c.is_there-is_into_there.result reason into_is c.is_there-is_into_there.ensures why c.if-is_into_there.false)
    (ends_with c.report_unmade-else-is_into_there.result buffer (unmade_outcome task task.setup.into reason) host
    (subst (λ (q : List ℕ). IfOk c.report_unmade-else-is_into_there.result (λ (v : Verdict). outcome_in buffer v ≡ unmade_outcome task q reason)) same_into c.report_unmade-else-is_into_there.ensures))
