use Rattle.std.proofs.Common.{refl, ap, ◌∙◌, rules}
use Rattle.cmd_shell.specs.LineByLine.{ended_line}
use Rattle.cmd_shell.specs.Runner.{options_of}
use Rattle.cmd_shell.proofs.LinesSoFar.{KeepsRun-line, RanLines-ending, RanLines-part, StoppedAt-part}
use Rattle.cmd_shell.proofs.runner.LineRunnerPartHandler.end_part.Goals as goal

pub returns-in-Err-clause-came : goal.returns-in-Err-clause-came
returns-in-Err-clause-came g c = λ first parts part come is_open next more.
    let says = c.end_with_line_feed.ensures part come.held is_open in
    record {
      keeps = KeepsRun-line first _ c.run_line.new.self _ c.end_with_line_feed.new.self c.run_line.new.self.line refl come.keeps c.run_line.ensures.kept;
      ran = (
        refl,
        StoppedAt-part (options_of first.options.now) _ _ _ _ parts more part next _ come.ran come.open_run (ap options_of come.keeps.options)
            (c.in-Err.ensures.ran (ended_line part) says come.open_run),
        c.in-Err.ensures.failed,
      );
    }

pub returns-then-self-clause-came : goal.returns-then-self-clause-came
returns-then-self-clause-came g c = λ first parts part come is_open next more.
    let says = c.end_with_line_feed.ensures part come.held is_open in
    let ran = RanLines-part (options_of first.options.now) _ _ _ _ parts part _ _ come.ran come.open_run (ap options_of come.keeps.options)
    (c.in-Ok.ensures.ran (ended_line part) says come.open_run) in
    record {
      keeps = KeepsRun-line first _ c.run_line.new.self _ c.end_with_line_feed.new.self c.run_line.new.self.line refl come.keeps c.run_line.ensures.kept;
      ran = (_, RanLines-ending (options_of first.options.now) _ _ parts more part next _ ran c.if-self.true, refl, refl, c.in-Ok.ensures.failed ∙ come.unfailed);
    }

pub returns-clause-came : goal.returns-clause-came
returns-clause-came g c = λ first parts part come is_open.
    let says = c.end_with_line_feed.ensures part come.held is_open in
    record {
      keeps = KeepsRun-line first _ c.run_line.new.self _ c.end_with_line_feed.new.self c.clear.new.self refl come.keeps c.run_line.ensures.kept;
      ran = RanLines-part (options_of first.options.now) _ _ _ _ parts part _ _ come.ran come.open_run (ap options_of come.keeps.options)
          (c.in-Ok.ensures.ran (ended_line part) says come.open_run);
      held = c.clear.ensures;
      open_run = c.if-self.false;
      unfailed = c.in-Ok.ensures.failed ∙ come.unfailed;
      observed = search (rules, come.observed);
    }
