use Rattle.std.proofs.Common.{refl}
use Rattle.cmd_shell.proofs.LinesSoFar.{KeepsRun-trans}
use Rattle.cmd_shell.proofs.runner.LineRunnerPartHandler.push.Goals as goal

pub returns-clause-came : goal.returns-clause-came
returns-clause-came g c = λ first parts begun come. record {
  keeps = KeepsRun-trans first _ _ come.keeps record { options = refl; observer = refl; output = refl; writer = refl; host = refl; session = refl };
  ran = come.ran;
  held = c.push.ensures begun come.held;
  open_run = come.open_run;
  unfailed = come.unfailed;
  observed = come.observed;
}
