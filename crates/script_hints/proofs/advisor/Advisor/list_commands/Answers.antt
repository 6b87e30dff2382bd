use Rattle.std.proofs.Common.{sym, ◌∙◌}
use Rattle.script_hints.proofs.Saying.{unwritten, written}
use Rattle.script_hints.proofs.advisor.Advisor.list_commands.Goals as goal

pub returns-then-is_asked-clause-listed : goal.returns-then-is_asked-clause-listed
returns-then-is_asked-clause-listed g c raw says =
    rw (sym (c.is_asked.ensures raw says) ∙ c.if-is_asked.true) (written _ _ _ c.write_rows.ensures.either)

pub returns-else-is_asked-clause-listed : goal.returns-else-is_asked-clause-listed
returns-else-is_asked-clause-listed g c raw says =
    rw (sym (c.is_asked.ensures raw says) ∙ c.if-is_asked.false) (unwritten _)
