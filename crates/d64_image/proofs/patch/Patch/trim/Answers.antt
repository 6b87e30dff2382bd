use Rattle.std.proofs.Common.{ℕ, List, length, nat_eq, not, ap, sym, ◌∙◌, subst, rules}
use Rattle.std.specs.Cmp.Lexicographic.{pointwise}
use Rattle.std.proofs.lemmas.Fn.{filter_same}
use Rattle.d64_image.specs.declared.block.TheConstants.{BLOCKS}
use Rattle.d64_image.specs.Image.{sector_at}
use Rattle.d64_image.specs.Patch.{HaveBlocks, IsPatch, IsPatchOf, restored_image, trimmed_blocks}
use Rattle.d64_image.proofs.KeptBlocks.{blocks-trimmed_blocks}
use Rattle.d64_image.proofs.Patches.{rises-trimmed_blocks, restored_image-trimmed_blocks, trimmed_blocks-changed_blocks}
use Rattle.d64_image.proofs.patch.Patch.trim.Goals as goal

-- the blocks whose bytes the image doesn't have
pub returns-clause-kept : goal.returns-clause-kept
unfolding trimmed_blocks
returns-clause-kept c =
    filter_same _ (λ (entry : ℕ × List ℕ). not (pointwise nat_eq entry.1 (sector_at c.args.image.now entry.0))) _ (λ x b f' k. search rules) _ _ c.retain.ensures.filtered
    ∙ ap (trimmed_blocks c.args.image.now) c.self.view_is

-- the blocks stay ascending
pub invariant_of-self : goal.invariant_of-self
invariant_of-self c = (
  subst IsPatch (sym (returns-clause-kept c)) (rises-trimmed_blocks c.args.self.now c.args.image.now 0 BLOCKS (subst IsPatch c.self.view_is c.self.invariant.0)),
  subst HaveBlocks (sym (returns-clause-kept c)) (blocks-trimmed_blocks c.args.self.now c.args.image.now (subst HaveBlocks c.self.view_is c.self.invariant.1)),
)

pub returns-clause-back : goal.returns-clause-back
returns-clause-back c =
    ap (restored_image c.args.image.now) (returns-clause-kept c) ∙ restored_image-trimmed_blocks c.args.self.now c.args.image.now 0 BLOCKS (subst IsPatch c.self.view_is c.self.invariant.0)

pub returns-clause-changed : goal.returns-clause-changed
returns-clause-changed c =
    returns-clause-kept c
    ∙ trimmed_blocks-changed_blocks c.args.self.now c.args.image.now
    c.requires

-- and are blocks of the image
pub returns-clause-held : goal.returns-clause-held
returns-clause-held c =
    subst (IsPatchOf c.args.image.now) (sym (returns-clause-kept c))
    (rises-trimmed_blocks c.args.self.now c.args.image.now 0 (length c.args.image.now) c.requires)
