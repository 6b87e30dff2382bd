use Rattle.std.proofs.Common.{◌++◌, refl, sym, ◌∙◌}
use Rattle.std.proofs.lemmas.Bool.{false≢true}
use Rattle.cmd_shell.specs.Runner.{options_of}
use Rattle.cmd_shell.proofs.RunEnds.{RanLines-flushed, StoppedAt-before}
use Rattle.cmd_shell.proofs.LinesSoFar.{KeepsRun-trans}
use Rattle.cmd_shell.proofs.runner.LineRunnerPartHandler.prepare.Goals as goal

pub returns-in-Ok-clause-came : goal.returns-in-Ok-clause-came
returns-in-Ok-clause-came g c = λ first parts begun delivered come. (
  record {
    keeps = KeepsRun-trans first _ _ come.keeps record { options = refl; observer = refl; output = refl; writer = c.deliver.ensures.same; host = refl; session = refl };
    ran = RanLines-flushed (options_of first.options.now) _ _ _ _ _ come.ran c.deliver.ensures.kept;
    held = come.held;
    open_run = come.open_run;
    unfailed = c.in-Ok.ensures.failed ∙ come.unfailed;
    observed = λ begun undelivered. absurd (false≢true (sym undelivered ∙ c.in-Ok.ensures.all));
  },
  c.in-Ok.ensures.all,
)

pub returns-in-Err-clause-came : goal.returns-in-Err-clause-came
returns-in-Err-clause-came g c = λ first parts begun delivered come last more. record {
  keeps = KeepsRun-trans first _ _ come.keeps record { options = refl; observer = refl; output = refl; writer = c.deliver.ensures.same; host = refl; session = refl };
  ran = (refl, StoppedAt-before (options_of first.options.now) _ _ parts more (begun ++ last) _ _ come.ran come.open_run (come.observed delivered c.in-Err.ensures.some) c.deliver.ensures.kept, c.in-Err.ensures.failed);
}
