use Rattle.std.proofs.Common.{◌≡◌, ◌<◌, ◌++◌, ◌∷◌, [], sym, subst, arith}
use Rattle.d64_image.specs.declared.block.TheConstants.{BLOCKS}
use Rattle.d64_image.specs.Patch.{HaveBlocks, IsPatch, RisesBetween}
use Rattle.d64_image.proofs.KeptBlocks.{is_block, blocks-pushed}
use Rattle.d64_image.proofs.Patches.{rises-pushed}
use Rattle.d64_image.proofs.patch.Patch.push.Goals as goal

-- the block lies above those that were kept
pub invariant_of-self-2 : goal.invariant_of-self-2
invariant_of-self-2 c =
    let kept = c.self.inside.kept.items in
    let block = c.args.block in
    let room = c.in_ok-reserve_next.ensures.same in
    let pushed = rw c.unwrap.ensures at c.push.ensures.items in
    let all : c.push.new.self.items ≡ kept ++ (block, c.args.bytes.now) ∷ [] = cc in
    let legal : block < BLOCKS = c.known_block.ensures in (
      subst IsPatch (sym all)
          (rises-pushed kept 0 BLOCKS block c.args.bytes.now (subst (RisesBetween 0 block) (sym c.self.view_is) c.requires.above) (omega arith) legal),
      subst HaveBlocks (sym all) (blocks-pushed kept (block, c.args.bytes.now) c.self.invariant.1 (is_block c.args.bytes.now c.told-bytes c.fits-bytes)),
    )
