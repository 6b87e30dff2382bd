use Rattle.std.proofs.Common.{Vec, Global, ℕ, [], ◌∷◌, refl, sym, ◌∙◌}
use Rattle.script_hints.specs.Observed.{one_more_line}
use Rattle.script_hints.proofs.LineStarts.{may_start}
use Rattle.script_hints.proofs.Saying.{unwritten, written}
use Rattle.script_hints.proofs.advisor.Advisor.explain_refusal.Goals as goal

pub returns-then-not-is_explained-clause-explained : goal.returns-then-not-is_explained-clause-explained
returns-then-not-is_explained-clause-explained g c raw says =
    let explained = sym (c.is_explained.ensures raw says) ∙ c.if-not-is_explained.true in
    ([], rw explained refl, unwritten _)

-- what is said of the line, after its start
pub returns-clause-explained : goal.returns-clause-explained
returns-clause-explained g c raw says =
    let explained = sym (c.is_explained.ensures raw says) ∙ c.if-not-is_explained.false in
    let start = c.bytes_of-start.result.now in
    let begun = may_start (λ (text : Vec ℕ Global). text.items) c.args.line.now c.args.self.now.is_numbered (one_more_line c.args.self.now.lines) c.args.self.now.first_bytes.items raw start
    c.start_of-start.result c.start_of-start.ensures says c.bytes_of-start.ensures in
    let said = rw (c.of-parts.ensures raw says) at c.write_refusal.ensures.says in
    (said.0 ∷ [], rw explained (start, said.0, begun, said.1, refl), written _ _ _ said.2)
