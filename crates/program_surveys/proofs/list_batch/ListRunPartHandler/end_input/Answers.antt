use Rattle.std.proofs.Common.{refl, ap, ◌∙◌}
use Rattle.program_surveys.proofs.ListSteps.{KeepsList-trans, OnOk-map, Runs-part}
use Rattle.program_surveys.proofs.list_batch.ListRunPartHandler.end_input.Goals as goal

pub returns : goal.returns
returns g c = λ first parts last come is_open.
    let end = c.end.ensures in
    record {
      keeps = KeepsList-trans _ first _ _ come.keeps record {
        lent = record { list = refl; host = refl; task = refl; outputs = refl; writers = end.same };
        separator = end.kept.0;
        options = end.kept.1;
        silent = end.silent;
      };
      delivered = OnOk-map c.end.result _ _ (λ stays. (stays.0 come.delivered.0, stays.1 ∙ come.delivered.1)) end.delivered;
      processed = Runs-part {A = Unit {0}} _ _ parts last _ _ _ _ c.end.result come.processed (ap g.C.FileTask.effects come.keeps.options) come.held end.processed;
    }
