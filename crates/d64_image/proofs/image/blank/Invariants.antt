use Rattle.std.proofs.Common.{◌≡◌, replicate}
use Rattle.d64_image.specs.declared.image.TheConstants.{BLOCK_BYTES}
use Rattle.d64_image.proofs.image.blank.Given as goal

abbrev pub invariant-loop : goal.invariant-loop
invariant-loop l = l.sectors.items ≡ replicate l.counter (replicate BLOCK_BYTES 0)
