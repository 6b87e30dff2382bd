-- what was read from a reader
use Rattle.std.proofs.Common.{◌≡◌, ℕ, ◌+◌, ◌<◌, ◌++◌, Option, Some, None, List, length, take, ap, ◌∙◌, arith}
use Rattle.std.proofs.lemmas.List.{length-append}
use Rattle.std.proofs.lemmas.List.Elements.{All-append, All-take}
use Rattle.std.specs.Option.{IfSome}
use Rattle.std.specs.Io.KnownBytes.{Consumes}
use Rattle.d64_image.specs.Disk.{AreBytes}

-- of a reader that has more than may be read
pub consumes_more : (old new : Option (List ℕ)) (bytes : List ℕ) (limit left : ℕ) → Consumes old new bytes → length bytes + left ≡ limit
    → IfSome new (λ rest. left < length rest) → IfSome old (λ all. limit < length all)
consumes_more None new bytes limit left p sum more = tt
consumes_more (Some xs) None bytes limit left p sum more = absurd p
consumes_more (Some xs) (Some ys) bytes limit left p sum more =
    let long = ap (λ (zs : List ℕ). length zs) p ∙ length-append bytes ys in
    omega arith

-- bytes, and what is left
pub bytes_append : (bytes more : List ℕ) → AreBytes bytes → AreBytes more → AreBytes (bytes ++ more)
bytes_append bytes more = All-append (λ (byte : ℕ). byte < 256) bytes more

-- bytes, and a piece more
pub bytes_more : (bytes buffer : List ℕ) (count : ℕ) → AreBytes bytes → AreBytes buffer → AreBytes (bytes ++ take count buffer)
bytes_more bytes buffer count are new = bytes_append bytes (take count buffer) are (All-take (λ (byte : ℕ). byte < 256) count buffer new)
