use Rattle.std.proofs.Common.{refl, sym, ap, ◌∙◌}
use Rattle.cmd_shell.specs.Runner.{options_of}
use Rattle.cmd_shell.proofs.LinesSoFar.{KeepsRun-line, KeepsRun-trans, RanLines-last, RanLines-whole, StoppedAt-last, has_none, has_some}
use Rattle.cmd_shell.proofs.runner.LineRunnerPartHandler.end_input.Goals as goal

pub returns-then-is_empty : goal.returns-then-is_empty
returns-then-is_empty g c = λ first parts last come is_open. record {
  keeps = KeepsRun-trans first _ _ come.keeps record { options = refl; observer = refl; output = refl; writer = refl; host = refl; session = refl };
  ran = (
    _,
    RanLines-whole (options_of first.options.now) _ _ parts last _ come.ran (has_none last (sym (c.is_empty.ensures.empty last come.held) ∙ c.if-is_empty.true)),
    refl,
    refl,
    come.unfailed,
  );
}

pub returns-in-Ok : goal.returns-in-Ok
returns-in-Ok g c = λ first parts last come is_open.
    let some = has_some last (sym (c.is_empty.ensures.empty last come.held) ∙ c.if-is_empty.false) in
    let says = c.is_empty.ensures.text last come.held is_open in
    record {
      keeps = KeepsRun-line first c.args.self.now c.run_line.new.self _ c.args.self.now.line c.run_line.new.self.line refl come.keeps c.run_line.ensures.kept;
      ran = (
        _,
        RanLines-last (options_of first.options.now) _ _ _ _ parts last _ _ come.ran come.open_run some (ap options_of come.keeps.options) (c.in-Ok.ensures.ran last says come.open_run),
        refl,
        refl,
        c.in-Ok.ensures.failed ∙ come.unfailed,
      );
    }

pub returns-in-Err : goal.returns-in-Err
returns-in-Err g c = λ first parts last come is_open.
    let some = has_some last (sym (c.is_empty.ensures.empty last come.held) ∙ c.if-is_empty.false) in
    let says = c.is_empty.ensures.text last come.held is_open in
    record {
      keeps = KeepsRun-line first c.args.self.now c.run_line.new.self _ c.args.self.now.line c.run_line.new.self.line refl come.keeps c.run_line.ensures.kept;
      ran = (
        refl,
        StoppedAt-last (options_of first.options.now) _ _ _ _ parts last _ come.ran come.open_run some (ap options_of come.keeps.options) (c.in-Err.ensures.ran last says come.open_run),
        c.in-Err.ensures.failed,
      );
    }
