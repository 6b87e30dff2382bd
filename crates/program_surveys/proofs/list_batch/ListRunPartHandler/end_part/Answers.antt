use Rattle.std.proofs.Common.{◌∷◌, Ok, Err, refl, ap, ◌∙◌}
use Rattle.program_surveys.proofs.ListSteps.{KeepsList-trans, Runs-part, StopsIn-part}
use Rattle.program_surveys.proofs.list_batch.ListRunPartHandler.end_part.Goals as goal

pub returns-in-Ok-clause-came : goal.returns-in-Ok-clause-came
returns-in-Ok-clause-came g c = λ first parts part come is_open.
    let end = c.end.ensures in
    let ok = c.in-Ok.ensures in
    record {
      keeps = KeepsList-trans _ first _ _ come.keeps record {
        lent = record { list = refl; host = refl; task = refl; outputs = refl; writers = end.same };
        separator = end.kept.0;
        options = end.kept.1;
        silent = end.silent;
      };
      delivered = (ok.delivered.0 come.delivered.0, ok.delivered.1 ∙ come.delivered.1);
      held = c.clear.ensures;
      processed = Runs-part {A = Unit {0}} _ _ parts part _ _ _ _ (Ok (tt {0})) come.processed (ap g.C.FileTask.effects come.keeps.options) come.held ok.processed;
    }

pub returns-in-Err-clause-came : goal.returns-in-Err-clause-came
returns-in-Err-clause-came g c = λ first parts part come is_open next more.
    let end = c.end.ensures in
    record {
      keeps = KeepsList-trans _ first _ _ come.keeps record {
        lent = record { list = refl; host = refl; task = refl; outputs = refl; writers = end.same };
        separator = end.kept.0;
        options = end.kept.1;
        silent = end.silent;
      };
      delivered = tt;
      processed = StopsIn-part _ parts (next ∷ more) part c.in-Err.fault _ _
          (Runs-part {A = Unit {0}} _ _ parts part _ _ _ _ (Err c.in-Err.fault) come.processed (ap g.C.FileTask.effects come.keeps.options) come.held c.in-Err.ensures.processed);
    }
