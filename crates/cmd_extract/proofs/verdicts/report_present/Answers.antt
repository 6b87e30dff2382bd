use Rattle.std.proofs.Common.{◌≡◌, ℕ, List, ◌++◌, ap, ◌∙◌, subst}
use Rattle.std.specs.Prelude.{IfOk, codes}
use Rattle.out_messages.specs.FaultLines.{present_line}
use Rattle.program_surveys.specs.declared.report.Verdict.{Verdict}
use Rattle.cmd_extract.specs.Setup.{TaskView}
use Rattle.cmd_extract.specs.Work.{outcome_in}
use Rattle.cmd_extract.specs.Unpacking.{present_outcome}
use Rattle.cmd_extract.proofs.Refusing.{refused_with}
use Rattle.cmd_extract.proofs.verdicts.report_present.Goals as goal

pub returns : goal.returns
returns c =
    subst (λ (t : TaskView). IfOk c.refuse.result (λ (verdict : Verdict). outcome_in c.refuse.new.buffer verdict ≡ present_outcome t c.args.path.now)) c.task.view_is
    (refused_with c.refuse.result (outcome_in c.refuse.new.buffer) c.task.inside.setup.now _ c.task.inside.name.now (codes "is there already") c.present_line.new.out.items (present_line c.args.path.now) c.as_bytes-2.ensures.value
    (c.in_ok-present_line.ensures ∙ ap (λ (b : List ℕ). b ++ present_line c.as_bytes.result.now) c.clear.ensures.items ∙ ap present_line c.as_bytes.ensures.value) c.refuse.ensures)
