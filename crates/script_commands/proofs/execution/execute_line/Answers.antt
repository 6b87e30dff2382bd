use Rattle.std.proofs.Common.{sym, ◌∙◌, option_copied}
use Rattle.script_lines.proofs.ExecutedLines.{IsExecuted-text}
use Rattle.script_commands.proofs.execution.execute_line.Goals as goal

pub returns : goal.returns
returns g c raw says =
    let said = c.in-Some.ensures.says raw says in
    IsExecuted-text (option_copied c.args.home) raw c.in-Some.text.now c.args.session.now _ _ _ _ said.0 said.1 (sym c.is_skipped.ensures ∙ c.if-is_skipped.false)
    (c.of.ensures _) c.execute_text-response.ensures
