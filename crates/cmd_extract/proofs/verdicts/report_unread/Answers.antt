use Rattle.std.proofs.Common.{ℕ, List, ◌++◌, refl, ap, ◌∙◌}
use Rattle.std.specs.Prelude.{codes}
use Rattle.out_messages.specs.FaultLines.{unread_line}
use Rattle.cmd_extract.specs.Work.{outcome_in}
use Rattle.cmd_extract.proofs.Refusing.{refused_with}
use Rattle.cmd_extract.proofs.verdicts.report_unread.Goals as goal

pub returns : goal.returns
returns c =
    refused_with c.refuse.result (outcome_in c.refuse.new.buffer) c.args.setup.now _ c.args.name.now (codes "cannot be read") _ _ refl
    (c.in_ok-unread_line.ensures ∙ ap (λ (b : List ℕ). b ++ unread_line c.args.name.now) c.clear.ensures.items) c.refuse.ensures
