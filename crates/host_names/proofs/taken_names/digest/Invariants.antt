use Rattle.std.proofs.Common.{◌≡◌, take}
use Rattle.host_names.specs.Digest.{name_digest}
use Rattle.host_names.proofs.taken_names.digest.Given as goal

abbrev pub invariant-loop-byte : goal.invariant-loop-byte
invariant-loop-byte l = l.digest ≡ name_digest (take l.byte-index l.name)
