use Rattle.std.proofs.Common.{refl}
use Rattle.d64_image.specs.Block.{pair_at}
use Rattle.d64_image.proofs.Zones.{counted_below, all_blocks}
use Rattle.d64_image.proofs.Pairs.{length-pairs, pair_at-counted, counted_apart, block_of-legal, block_of-pair_at, block_of-some}
use Rattle.d64_image.proofs.laws.blocks_stand_for_pairs.Goals as goal

pub returns-clause-count : goal.returns-clause-count
returns-clause-count c = length-pairs

pub returns-clause-pair : goal.returns-clause-pair
returns-clause-pair c = λ block h.
    let legal = counted_apart (pair_at block).0 (pair_at block).1 block h refl in ((legal.0, legal.1, legal.2), block_of-pair_at block h)

pub returns-clause-block : goal.returns-clause-block
returns-clause-block c = λ track sector legal. (
  block_of-legal track sector legal.0 legal.1 legal.2,
  counted_below track sector legal.1 legal.2,
  pair_at-counted track sector legal.0 legal.1 legal.2,
)

pub returns-clause-legal : goal.returns-clause-legal
returns-clause-legal c = λ track sector block e.
    let found = block_of-some track sector block e in
    let legal = counted_apart track sector block found.0 found.1 in
    ((legal.0, legal.1, legal.2), found.0, found.1)

pub returns-clause-tracks : goal.returns-clause-tracks
returns-clause-tracks c = all_blocks
