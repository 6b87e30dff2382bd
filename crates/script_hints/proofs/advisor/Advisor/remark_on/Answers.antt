use Rattle.std.proofs.Common.{Vec, Global, ℕ, [], ◌∷◌, refl, rules, sym, ◌∙◌}
use Rattle.script_hints.specs.Observed.{MayRemark}
use Rattle.script_hints.proofs.Remarks.{may_remark}
use Rattle.script_hints.proofs.Saying.{unwritten, written}
use Rattle.script_hints.proofs.advisor.Advisor.remark_on.Goals as goal

pub returns-then-not-is_remarked-clause-remarked : goal.returns-then-not-is_remarked-clause-remarked
returns-then-not-is_remarked-clause-remarked g c raw says =
    let remarked = sym c.is_remarked.ensures ∙ c.if-not-is_remarked.true in
    ([], rw remarked refl, unwritten _)

-- what was found is written
pub returns-clause-remarked : goal.returns-clause-remarked
returns-clause-remarked g c raw says =
    let remarked = sym c.is_remarked.ensures ∙ c.if-not-is_remarked.false in
    let found = rw (c.of-parts.ensures raw says) at (rw (c.text_of-text.ensures raw says) at c.remark.ensures) in
    let is : MayRemark raw c.args.status.now c.args.image.now c.args.self.now.files c.unwrap_or-said.result.items =
    rw c.unwrap_or-said.ensures (may_remark (λ (line : Vec ℕ Global). line.items) raw c.args.status.now c.args.image.now c.args.self.now.files c.remark.result c.new-nothing.result found c.new-nothing.ensures.items) in
    (c.unwrap_or-said.result.items ∷ [], rw remarked (c.unwrap_or-said.result.items, is, refl), written _ _ _ (rw c.as_slice.ensures.value at c.write.ensures.either))

pub returns-clause-files : goal.returns-clause-files
returns-clause-files g c = rw (sym c.is_remarked.ensures ∙ c.if-not-is_remarked.false) (search rules)
