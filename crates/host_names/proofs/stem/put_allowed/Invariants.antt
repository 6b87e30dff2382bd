use Rattle.std.proofs.Common.{◌≡◌, take}
use Rattle.host_names.specs.HostName.{allowed_name}
use Rattle.host_names.proofs.stem.put_allowed.Given as goal

abbrev pub invariant-loop-byte : goal.invariant-loop-byte
invariant-loop-byte l = l.name.items ≡ allowed_name (take l.byte-index l.text)
