use Rattle.std.proofs.Common.{inr, codes}
use Rattle.script_advice.proofs.Writings.{AppendsPart-more, Writes-after}
use Rattle.script_hints.proofs.advisor.write_line.Goals as goal

-- the write of the text failed
pub returns-in_err-write-clause-either : goal.returns-in_err-write-clause-either
returns-in_err-write-clause-either g c = inr (AppendsPart-more _ _ c.args.text.now (codes "\n") c.in_err-write.ensures.err, c.in_err-write.ensures.failed)

-- the text is written, and then the line's end
pub returns-clause-either : goal.returns-clause-either
returns-clause-either g c =
    Writes-after _ (g.W.Write.contents c.write.new.self.writer.now) _ _ c.write.new.self.has_failed _ c.args.text.now (codes "\n")
    c.in_ok-write.ensures.ok c.in_ok-write.ensures.failed c.write-2.ensures.either
