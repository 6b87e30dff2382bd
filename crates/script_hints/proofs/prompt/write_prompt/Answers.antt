use Rattle.std.proofs.Common.{inr}
use Rattle.script_hints.specs.Prompt.{prompt_mark}
use Rattle.script_advice.proofs.Writings.{AppendsPart-more, Writes-after}
use Rattle.script_hints.proofs.prompt.write_prompt.Goals as goal

-- the write of the name failed
pub returns-in_err-write-clause-either : goal.returns-in_err-write-clause-either
returns-in_err-write-clause-either g c =
    inr (AppendsPart-more _ _ c.args.name.now (prompt_mark c.args.is_unsaved) c.in_err-write.ensures.err, c.in_err-write.ensures.failed)

-- the name is written, and then the mark
pub returns-clause-either : goal.returns-clause-either
returns-clause-either g c =
    Writes-after _ (g.W.Write.contents c.write.new.self.writer.now) _ _ c.write.new.self.has_failed _ c.args.name.now (prompt_mark c.args.is_unsaved)
    c.in_ok-write.ensures.ok c.in_ok-write.ensures.failed (rw c.mark.ensures at c.write-2.ensures.either)
