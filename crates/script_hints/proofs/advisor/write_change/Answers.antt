use Rattle.std.proofs.Common.{rules, ◌≡◌, List, ℕ, ◌++◌, inr, codes, option_copied}
use Rattle.std.specs.Option.{option_map_or}
use Rattle.script_advice.proofs.Writings.{AppendsPart-more, Writes-after}
use Rattle.script_hints.proofs.advisor.write_change.Goals as goal

-- the write of the start failed
pub returns-in_err-write-clause-either : goal.returns-in_err-write-clause-either
returns-in_err-write-clause-either g c =
    inr (AppendsPart-more _ _ c.args.start.now (option_map_or (λ (known : List ℕ). known) (option_copied c.args.line) (codes "a change whose line is not known") ++ codes "\n") c.in_err-write.ensures.err, c.in_err-write.ensures.failed)

-- the start is written, and then the line
pub returns-clause-either : goal.returns-clause-either
returns-clause-either g c =
    let known : c.unwrap_or.result.now ≡ option_map_or (λ (known : List ℕ). known) (option_copied c.args.line) (codes "a change whose line is not known") = search rules in
    Writes-after _ (g.W.Write.contents c.write.new.self.writer.now) _ _ c.write.new.self.has_failed _ c.args.start.now _
    c.in_ok-write.ensures.ok c.in_ok-write.ensures.failed (rw known at c.write_line.ensures.either)
