use Rattle.std.proofs.Common.{◌≡◌, ◌*◌, take}
use Rattle.d64_image.proofs.block_bytes.same_bytes.Given as goal

-- the bytes so far are the same
abbrev pub invariant-loop-group : goal.invariant-loop-group
invariant-loop-group l = take (l.group * 32) l.block ≡ take (l.group * 32) l.other
