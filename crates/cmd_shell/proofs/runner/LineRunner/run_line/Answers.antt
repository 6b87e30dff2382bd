use Rattle.d64_history.specs.History.{present_image}
use Rattle.script_lines.specs.Response.{shown_response}
use Rattle.cmd_shell.specs.Runner.{options_of}
use Rattle.cmd_shell.proofs.LinesSoFar.{RunsLine-skipped, EndsLine-executed}
use Rattle.cmd_shell.proofs.runner.LineRunner.run_line.Goals as goal

pub returns-in_default-clause-ran : goal.returns-in_default-clause-ran
returns-in_default-clause-ran g c raw says open_run =
    RunsLine-skipped (options_of c.args.self.now.options.now) raw (g.W.Write.contents c.args.self.now.output.now.writer.now) _ _ c.args.self.now.tally (c.in_default.ensures raw says)

pub returns-clause-ran : goal.returns-clause-ran
returns-clause-ran g c raw says open_run =
    EndsLine-executed (options_of c.args.self.now.options.now) raw _ _ _ _ c.args.self.now.tally c.count.new.self (shown_response (present_image c.execute_line.new.session) c.in-Some.response) c.write_response.result
    (c.in-Some.ensures raw says) c.count.ensures.closed c.count.ensures.accepted c.count.ensures.refused c.write_response.ensures.ok c.write_response.ensures.err
