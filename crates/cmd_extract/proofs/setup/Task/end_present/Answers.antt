use Rattle.std.proofs.Common.{◌≡◌, rules, List, ℕ, Bool, cond, sym, ap, ◌∙◌, subst}
use Rattle.std.specs.Prelude.{IfOk}
use Rattle.program_surveys.specs.declared.report.Verdict.{Verdict}
use Rattle.cmd_extract.specs.Setup.{TaskView, list_in}
use Rattle.cmd_extract.specs.Work.{Work, Done, EndsWork, outcome_in}
use Rattle.cmd_extract.specs.Unpacking.{present_outcome, skipped_outcome, present_work}
use Rattle.cmd_extract.proofs.Steps.{stops, ends_after, ends_with, ends_not}
use Rattle.cmd_extract.proofs.FolderWork.{not_skipped, looked_into}
use Rattle.cmd_extract.proofs.setup.Task.end_present.Goals as goal

pub returns-then-not-setup : goal.returns-then-not-setup
returns-then-not-setup g c =
    let task = c.args.self.now in
    let host = g.H.Host.state c.args.host.now in
    let buffer = c.report_present.new.buffer in
    let same : c.setup.inside.skips ≡ task.setup.skips = search rules in
    let reported_is : c.deref.result.now ≡ task.done = c.deref.ensures ∙ ap (λ (t : TaskView). t.done) c.self.view_is in
    subst (λ (w : Work). EndsWork c.report_present.result buffer w host host) (not_skipped task (sym same ∙ c.if-not-setup.true))
    (ends_with c.report_present.result buffer (present_outcome task task.done) host
    (subst (λ (q : List ℕ). IfOk c.report_present.result (λ (v : Verdict). outcome_in buffer v ≡ present_outcome task q)) reported_is c.report_present.ensures))

pub returns-in_err-list : goal.returns-in_err-list
returns-in_err-list g c = ends_not c.from_residual.result _ _ _ _ c.from_residual.ensures.0 (stops _ _)

pub returns-then-is_there : goal.returns-then-is_there
returns-then-is_there g c =
    let task = c.args.self.now in
    let host = g.H.Host.state c.args.host.now in
    let buffer = c.report_skipped.new.buffer in
    let same : c.setup.inside.skips ≡ task.setup.skips = search rules in
    let done_is : c.deref-2.result.now ≡ task.done = c.deref-2.ensures ∙ ap (λ (t : TaskView). t.done) c.self.view_is in
    let path_is : c.deref-3.result.now ≡ list_in task.done = c.deref-3.ensures ∙ c.in_ok-list.ensures ∙ ap list_in done_is in
    ends_after c.report_skipped.result buffer (present_work task) (Done (cond c.is_there.result (skipped_outcome task) (present_outcome task task.done))) host host host
    (looked_into task c.deref-3.result.now host c.is_there.result (sym same ∙ c.if-not-setup.false) path_is c.is_there.ensures)
    (subst (λ (s : Bool). EndsWork c.report_skipped.result buffer (Done (cond s (skipped_outcome task) (present_outcome task task.done))) host host) (sym c.if-is_there.true)
    (ends_with c.report_skipped.result buffer (skipped_outcome task) host c.report_skipped.ensures))

pub returns : goal.returns
returns g c =
    let task = c.args.self.now in
    let host = g.H.Host.state c.args.host.now in
    let buffer = c.report_present-else-is_there.new.buffer in
    let same : c.setup.inside.skips ≡ task.setup.skips = search rules in
    let done_is : c.deref-2.result.now ≡ task.done = c.deref-2.ensures ∙ ap (λ (t : TaskView). t.done) c.self.view_is in
    let path_is : c.deref-3.result.now ≡ list_in task.done = c.deref-3.ensures ∙ c.in_ok-list.ensures ∙ ap list_in done_is in
    let reported_is : c.deref-else-is_there.result.now ≡ task.done = c.deref-else-is_there.ensures ∙ ap (λ (t : TaskView). t.done) c.self.view_is in
    ends_after c.report_present-else-is_there.result buffer (present_work task) (Done (cond c.is_there.result (skipped_outcome task) (present_outcome task task.done))) host host host
    (looked_into task c.deref-3.result.now host c.is_there.result (sym same ∙ c.if-not-setup.false) path_is c.is_there.ensures)
    (subst (λ (s : Bool). EndsWork c.report_present-else-is_there.result buffer (Done (cond s (skipped_outcome task) (present_outcome task task.done))) host host) (sym c.if-is_there.false)
    (ends_with c.report_present-else-is_there.result buffer (present_outcome task task.done) host
    (subst (λ (q : List ℕ). IfOk c.report_present-else-is_there.result (λ (v : Verdict). outcome_in buffer v ≡ present_outcome task q)) reported_is c.report_present-else-is_there.ensures)))
