use Rattle.std.proofs.Common.{Vec, Global, ℕ, ap, ◌∙◌}
use Rattle.script_advice.specs.LineParts.{LineParts}
use Rattle.script_hints.proofs.Remarks.{may_be_default}
use Rattle.script_hints.proofs.advisor.Advisor.keep.Goals as goal

-- what is held goes by the arguments, and by the name under which `read` stores by default
pub returns-clause-kept : goal.returns-clause-kept
returns-clause-kept g c raw says =
    let first = ap (λ (parts : LineParts). parts.first) (c.parts.view_is ∙ c.of-parts.ensures raw says) in
    let found = rw first at c.default_name.ensures in (
      c.bytes_of.result.now,
      may_be_default (λ (name : Vec ℕ Global). name.items) c.args.image.now _ c.bytes_of.result.now c.default_name.result found
          (rw c.unwrap_or-found.ensures at c.bytes_of.ensures),
      rw (c.of-parts.ensures raw says) at c.kept_after-self.ensures,
    )
