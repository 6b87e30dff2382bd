use Rattle.std.proofs.Common.{◌≡◌, ℕ, ap, ap₂, sym, ◌∙◌, subst, nat_lt, arith}
use Rattle.std.specs.List.{insert, count_by}
use Rattle.d64_image.specs.declared.block.TheConstants.{BLOCKS}
use Rattle.d64_image.specs.Patch.{Kept, HaveBlocks, IsPatch}
use Rattle.d64_image.proofs.KeptBlocks.{is_block, blocks-insert}
use Rattle.d64_image.proofs.Patches.{absent, rises-insert, with_kept-new}
use Rattle.d64_image.proofs.patch.Patch.keep.Goals as goal

-- the block is added in its place
pub returns-clause-kept : goal.returns-clause-kept
returns-clause-kept c =
    let old : c.reserve_next.new.kept.items ≡ c.args.self.now = c.reserve_next.ensures.same ∙ c.self.view_is in
    let place = c.place_of-place.ensures.place ∙ ap (λ (k : Kept). count_by (λ x. nat_lt x.0 c.args.block) k) old in
    let inserted : c.insert.new.self.items ≡ insert c.reserve_next.new.kept.items c.place_of-place.result (c.args.block, c.args.bytes.now) = rw c.unwrap.ensures at c.insert.ensures.items in
    inserted ∙ ap₂ (λ (k : Kept) (n : ℕ). insert k n (c.args.block, c.args.bytes.now)) old place
    ∙ sym (with_kept-new c.args.self.now c.args.block c.args.bytes.now c.requires)

-- the blocks stay ascending
pub invariant_of-self-3 : goal.invariant_of-self-3
invariant_of-self-3 c =
    let old : c.reserve_next.new.kept.items ≡ c.args.self.now = c.reserve_next.ensures.same ∙ c.self.view_is in
    let place = c.place_of-place.ensures.place ∙ ap (λ (k : Kept). count_by (λ x. nat_lt x.0 c.args.block) k) old in
    let inserted : c.insert.new.self.items ≡ insert c.reserve_next.new.kept.items c.place_of-place.result (c.args.block, c.args.bytes.now) = rw c.unwrap.ensures at c.insert.ensures.items in
    let is = inserted ∙ ap (λ (k : Kept). insert k c.place_of-place.result (c.args.block, c.args.bytes.now)) old in (
      subst IsPatch (sym is)
          (rises-insert c.args.self.now 0 BLOCKS c.args.block c.place_of-place.result c.args.bytes.now (subst IsPatch c.self.view_is c.self.invariant.0)
          (absent c.args.self.now c.args.block c.requires) (omega arith) c.place_of-place.ensures.legal place),
      subst HaveBlocks (sym is)
          (blocks-insert c.args.self.now c.place_of-place.result (c.args.block, c.args.bytes.now) (subst HaveBlocks c.self.view_is c.self.invariant.1) (is_block c.args.bytes.now c.told-bytes c.fits-bytes)),
    )
