use Rattle.std.proofs.Common.{◌≡◌, ◌-◌, ◌≤◌}
use Rattle.d64_image.specs.declared.block.TheConstants.{BLOCKS}
use Rattle.d64_image.specs.Patch.{RisesBetween}
use Rattle.d64_history.specs.ResumeFault.{blocks_at}
use Rattle.d64_history.proofs.Reading.{with_front}
use Rattle.d64_history.proofs.file_parts.read_blocks.Given as goal

-- the blocks so far, which lie below those that are still read
abbrev pub invariant-loop : goal.invariant-loop
invariant-loop l = record {
  read : with_front l.patch (blocks_at l.blocks (l.count - l.counter) l.low l.rest) ≡ blocks_at l.blocks l.count 0 l.bytes;
  below : RisesBetween 0 l.low l.patch;
  low : l.low ≤ BLOCKS;
}
