use Rattle.std.proofs.Common.{ℕ, [], ◌∷◌, ◌++◌, sym, ap, ◌∙◌}
use Rattle.std.proofs.lemmas.Bool.{ne_eqb}
use Rattle.host_names.specs.HostName.{without_last_spaces}
use Rattle.host_names.proofs.Spaces.{space_dropped, other_kept, empty_kept}
use Rattle.host_names.proofs.stem.without_last_spaces.Goals as goal

pub returns-then-last-ne32 : goal.returns-then-last-ne32
returns-then-last-ne32 c =
    let is = c.in-Some.ensures.cases.0 in
    is ∙ sym (other_kept c.in-Some.front.now c.in-Some.last.now (ne_eqb c.in-Some.last.now 32 c.if-last-ne32.true)) ∙ sym (ap without_last_spaces is) ∙ c.loop-last.invariant

pub loop-last-preserved : goal.loop-last-preserved
loop-last-preserved c =
    let front = c.in-Some.front.now in
    sym (space_dropped front) ∙ ap (λ (byte : ℕ). without_last_spaces (front ++ byte ∷ [])) (sym c.if-last-ne32.false)
    ∙ sym (ap without_last_spaces c.in-Some.ensures.cases.0) ∙ c.loop-last.invariant

pub returns : goal.returns
returns c = empty_kept c.loop-last.left.now c.in_default.ensures.cases ∙ c.loop-last.invariant
