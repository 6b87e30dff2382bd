-- What is known of a file's bytes after some have been read.
use Rattle.std.proofs.Common.{◌<◌, ◌+◌, ℕ, List, length, Option, Some, None, ap, arith}
use Rattle.std.specs.Option.{IfSome}
use Rattle.std.specs.Io.KnownBytes.{Consumes}
use Rattle.std.proofs.lemmas.List.{length-append}

-- what was read and what is left are longer than a limit, so the file was
pub longer_before : (limit : ℕ) (old new : Option (List ℕ)) (read : List ℕ) → Consumes old new read
    → IfSome new (λ rest. limit < length read + length rest) → IfSome old (λ whole. limit < length whole)
longer_before limit None new read consumed longer = tt
longer_before limit (Some whole) None read consumed longer = absurd consumed
longer_before limit (Some whole) (Some rest) read consumed longer = omega (arith, longer, length-append read rest, ap length consumed)
