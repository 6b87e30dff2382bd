use Rattle.std.proofs.Common.{ℕ, List, ◌++◌, take, refl, ap, ◌∙◌}
use Rattle.program_surveys.proofs.ListNames.{kept_name-push}
use Rattle.program_surveys.proofs.ListSteps.{KeepsList-trans}
use Rattle.program_surveys.proofs.list_batch.ListRunPartHandler.push.Goals as goal

pub returns-clause-came : goal.returns-clause-came
returns-clause-came g c = λ first parts begun come. record {
  keeps = KeepsList-trans _ first _ _ come.keeps record {
    lent = record { list = refl; host = refl; task = refl; outputs = refl; writers = (refl, refl) };
    separator = refl;
    options = refl;
    silent = λ quiet clean. (clean, refl);
  };
  delivered = come.delivered;
  held = c.push.ensures ∙ ap (λ (l : List ℕ). take 4097 (l ++ c.args.bytes.now)) come.held ∙ kept_name-push begun c.args.bytes.now;
  processed = come.processed;
}
