use Rattle.std.proofs.Common.{ℕ, List, inl, ap, subst}
use Rattle.script_advice.specs.LineParts.{LineParts}
use Rattle.script_advice.specs.Refusal.{IsCauseLine}
use Rattle.script_advice.proofs.refusal.write_refusal.Goals as goal

-- what was found to be wrong is written
pub returns-in-Some-clause-says : goal.returns-in-Some-clause-says
returns-in-Some-clause-says g c =
    let first = ap (λ (parts : LineParts). parts.first) c.parts.view_is in
    let found = subst (λ (name : List ℕ). IsCauseLine (g.H.Host.state c.args.host.now) c.args.image.now c.args.start.now name c.args.status.now c.in-Some.line.items) first c.in-Some.ensures.line in
    (c.in-Some.line.items, inl found, rw c.as_slice.ensures.value at c.write.ensures.either)
