use Rattle.std.proofs.Common.{◌≡◌, ◌+◌, ◌-◌, ◌++◌, ◌∷◌, [], ℕ, List, ap₂, sym, ◌∙◌, subst, arith}
use Rattle.d64_image.specs.Patch.{Kept, RisesBetween}
use Rattle.d64_image.proofs.Patches.{rises-pushed}
use Rattle.d64_history.specs.ResumeFault.{blocks_at}
use Rattle.d64_history.proofs.Reading.{with_front, blocks_whole, blocks_on, blocks_end, blocks_all_read, block_within, rises_none, rises_higher}
use Rattle.d64_history.proofs.file_parts.read_blocks.Goals as goal

pub loop-init : goal.loop-init
loop-init c = record {
  read = blocks_whole c.new-patch.result c.args.blocks c.args.count 0 c.args.bytes.now c.new-patch.ensures;
  below = rises_none c.new-patch.result 0 0 c.new-patch.ensures;
  low = omega arith;
}

-- the block lies above those so far
pub push-requires : goal.push-requires
push-requires c =
    let content : List ℕ = c.in-Ok.entry.1.now in
    let within = block_within c.args.blocks c.loop.low c.loop.rest.now ((c.in-Ok.entry.0, content), c.in-Ok.after.now) c.in-Ok.ensures in
    record { above = rises_higher c.loop.patch 0 c.loop.low c.in-Ok.entry.0 c.loop.invariant.below within.0 }

pub returns-in-Err : goal.returns-in-Err
returns-in-Err c =
    blocks_end c.in-Err.fault c.loop.patch c.args.blocks c.args.count c.loop.counter c.loop.low c.loop.rest.now
    (blocks_at c.args.blocks c.args.count 0 c.args.bytes.now) c.loop-test.true c.in-Err.ensures c.loop.invariant.read

-- one block more is kept
pub loop-preserved : goal.loop-preserved
loop-preserved c =
    let content : List ℕ = c.in-Ok.entry.1.now in
    let block : ℕ = c.in-Ok.entry.0 in
    let entry : ℕ × List ℕ = (block, content) in
    let kept : c.push.new.self ≡ c.loop.patch ++ entry ∷ [] = c.in_ok-push-in-Ok.ensures.kept in
    let value : c.index-low.result ≡ block = c.index-low.ensures.value in
    let legal = c.index-low.ensures.within in
    let within = block_within c.args.blocks c.loop.low c.loop.rest.now (entry, c.in-Ok.after.now) c.in-Ok.ensures in
    let total = blocks_at c.args.blocks c.args.count 0 c.args.bytes.now in
    record {
      read =
          ap₂ (λ (front : Kept) (n : ℕ). with_front front (blocks_at c.args.blocks (c.args.count - (c.loop.counter + 1)) (n + 1) c.in-Ok.after.now)) kept value
          ∙ blocks_on c.loop.patch c.args.blocks c.args.count c.loop.counter c.loop.low c.loop.rest.now entry c.in-Ok.after.now total
          c.loop-test.true c.in-Ok.ensures c.loop.invariant.read;
      below =
          subst (RisesBetween 0 (c.index-low.result + 1)) (sym kept)
          (rises-pushed c.loop.patch 0 (c.index-low.result + 1) block content
          (rises_higher c.loop.patch 0 c.loop.low block c.loop.invariant.below within.0) (omega arith) (omega arith));
      low = omega arith;
    }

pub returns : goal.returns
returns c =
    blocks_all_read c.loop.patch c.args.blocks c.args.count c.loop.counter c.loop.low c.loop.rest.now
    (blocks_at c.args.blocks c.args.count 0 c.args.bytes.now) c.loop-test.false c.loop.invariant.read
