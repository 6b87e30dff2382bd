use Rattle.std.proofs.Common.{◌≡◌, drop}
use Rattle.d64_history.specs.SessionFile.{magic}
use Rattle.d64_history.specs.ResumeFault.{after_magic}
use Rattle.d64_history.proofs.file_parts.skip_magic.Given as goal

-- the rest is read as the bytes are
abbrev pub invariant-loop-byte : goal.invariant-loop-byte
invariant-loop-byte l = after_magic (drop l.byte-index magic) l.rest ≡ after_magic magic l.initial.rest
