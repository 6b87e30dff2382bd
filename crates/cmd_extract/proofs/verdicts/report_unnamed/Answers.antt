use Rattle.std.proofs.Common.{◌≡◌, ℕ, List, ◌++◌, ap, ◌∙◌, subst, Vec, Global}
use Rattle.std.specs.Prelude.{IfOk, codes, string_bytes}
use Rattle.out_messages.specs.FaultLines.{unwritten_line}
use Rattle.program_console.specs.Reasons.{with_known_reason}
use Rattle.program_surveys.specs.declared.report.Verdict.{Verdict}
use Rattle.cmd_extract.specs.Setup.{TaskView}
use Rattle.cmd_extract.specs.Work.{outcome_in}
use Rattle.cmd_extract.specs.FilesNow.{progress_of_files}
use Rattle.cmd_extract.specs.Unpacking.{unnamed_outcome}
use Rattle.cmd_extract.proofs.Refusing.{refused_with}
use Rattle.cmd_extract.proofs.verdicts.report_unnamed.Goals as goal

pub returns : goal.returns
returns c =
    subst (λ (t : TaskView). IfOk c.refuse.result (λ (verdict : Verdict). outcome_in c.refuse.new.buffer verdict ≡ unnamed_outcome t (progress_of_files c.args.files.now) c.args.reason)) c.task.view_is
    (refused_with c.refuse.result (outcome_in c.refuse.new.buffer) c.task.inside.setup.now _ c.task.inside.name.now (codes "cannot be written") c.swap.new.x.items
    (with_known_reason c.args.reason (c.args.files.now.reported.complaint.items ++ unwritten_line (string_bytes c.task.inside.done))) c.as_bytes-2.ensures.value
    (ap (λ (v : Vec ℕ Global). v.items) c.swap.ensures.x_after ∙ c.in_ok-add_unwritten.ensures
    ∙ ap (λ (p : List ℕ). with_known_reason c.args.reason (c.args.files.now.reported.complaint.items ++ unwritten_line p)) c.as_bytes.ensures.value) c.refuse.ensures)
