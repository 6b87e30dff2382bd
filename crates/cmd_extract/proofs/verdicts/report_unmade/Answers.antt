use Rattle.std.proofs.Common.{◌≡◌, ℕ, List, ◌++◌, ap, ◌∙◌, subst}
use Rattle.std.specs.Prelude.{IfOk, codes}
use Rattle.out_messages.specs.FaultLines.{unwritten_line}
use Rattle.program_console.specs.Reasons.{with_known_reason}
use Rattle.program_surveys.specs.declared.report.Verdict.{Verdict}
use Rattle.cmd_extract.specs.Setup.{TaskView}
use Rattle.cmd_extract.specs.Work.{outcome_in}
use Rattle.cmd_extract.specs.Unpacking.{unmade_outcome}
use Rattle.cmd_extract.proofs.Refusing.{refused_with}
use Rattle.cmd_extract.proofs.verdicts.report_unmade.Goals as goal

pub returns : goal.returns
returns c =
    subst (λ (t : TaskView). IfOk c.refuse.result (λ (verdict : Verdict). outcome_in c.refuse.new.buffer verdict ≡ unmade_outcome t c.args.path.now c.args.reason)) c.task.view_is
    (refused_with c.refuse.result (outcome_in c.refuse.new.buffer) c.task.inside.setup.now _ c.task.inside.name.now (codes "cannot be written") c.add_unwritten.new.complaint.items (with_known_reason c.args.reason (unwritten_line c.args.path.now)) c.as_bytes-2.ensures.value
    (c.in_ok-add_unwritten.ensures ∙ ap (λ (b : List ℕ). with_known_reason c.args.reason (b ++ unwritten_line c.as_bytes.result.now)) c.clear.ensures.items ∙ ap (λ (q : List ℕ). with_known_reason c.args.reason (unwritten_line q)) c.as_bytes.ensures.value) c.refuse.ensures)
