-- The bytes of an input that were read, within its limits.
use Rattle.std.proofs.Common.{◌≡◌, ℕ, Bool, ◌+◌, ◌<◌, ◌≤◌, List, [], ◌++◌, refl, length, take, drop, Option, None, Some, sym, ap, ◌∙◌, subst, append_assoc, append-nil, length-append, take-append-drop, take-take, min, arith}
use Rattle.std.specs.Io.KnownBytes.{Consumes, IsAtEnd}
use Rattle.std.proofs.KnownBytes.{Consumes-trans, Consumes-whole}
use Rattle.std.proofs.Math.Seq.{take-append-add}
use Rattle.std.proofs.lemmas.List.{length-take}
use Rattle.host_storage.specs.Input.{input_limit}
use Rattle.script_text.specs.Parts.{CutsShort, Ends, HasCome, IsCutShort, parts_of}

-- a run that ended after these bytes, whatever comes next
pub Ends-after : (ended : List (List ℕ) → Type 0) (separator : ℕ) (reader left : Option (List ℕ)) (bytes over : List ℕ) → Consumes reader left (bytes ++ over)
    → ((more : List ℕ) → ended (parts_of separator (bytes ++ more))) → Ends ended separator reader
Ends-after ended separator None left bytes over lost ends = record { input = bytes ++ []; all = tt; here = ends [] }
Ends-after ended separator (Some xs) None bytes over lost ends = absurd lost
Ends-after ended separator (Some xs) (Some ys) bytes over lost ends =
    record { input = bytes ++ (over ++ ys); all = sym (lost ∙ append_assoc bytes over ys); here = ends (over ++ ys) }

-- a run that ended with its input
pub Ends-whole : (ended : List (List ℕ) → Type 0) (separator : ℕ) (reader left : Option (List ℕ)) (bytes : List ℕ) → Consumes reader left bytes → IsAtEnd left
    → ended (parts_of separator bytes) → Ends ended separator reader
Ends-whole ended separator reader left bytes lost end ends =
    record { input = bytes; all = Consumes-whole reader left bytes (λ input. bytes ≡ input) lost end refl; here = ends }

-- a read that found the end consumed nothing
pub Consumes-none : (a b c : Option (List ℕ)) (bytes more : List ℕ) (count : ℕ) → Consumes a b bytes → Consumes b c (take count more) → count ≡ 0 → Consumes a c bytes
Consumes-none a b c bytes more count before read none =
    subst (Consumes a c) (ap (λ n. bytes ++ take n more) none ∙ append-nil bytes) (Consumes-trans a b c bytes (take count more) before read)

-- the bytes of a read: those within the limit, and those past it
pub Consumes-read : (a b c : Option (List ℕ)) (bytes more : List ℕ) (count least room : ℕ) → Consumes a b bytes → Consumes b c (take count more) → least ≡ min count room
    → Consumes a c ((bytes ++ take least more) ++ drop least (take count more))
Consumes-read a b c bytes more count least room before read is =
    let fits : least ≤ count = omega (arith, is) in
    subst (Consumes a c)
    (sym (ap (λ l. (bytes ++ l) ++ drop least (take count more)) (sym (take-take least count more fits))
    ∙ append_assoc bytes (take least (take count more)) (drop least (take count more))
    ∙ ap (λ l. bytes ++ l) (take-append-drop least (take count more))))
    (Consumes-trans a b c bytes (take count more) before read)

-- a read past the limit fills the input up to it
pub take_limit : (bytes more : List ℕ) (count least room : ℕ) → length bytes + room ≡ input_limit → room < count → least ≡ min count room
    → take input_limit (bytes ++ take count more) ≡ bytes ++ take least more
take_limit bytes more count least room full over is =
    let same : room ≡ least = omega (arith, over, is) in
    ap (λ n. take n (bytes ++ take count more)) (sym full) ∙ take-append-add bytes (take count more) room
    ∙ ap (λ l. bytes ++ l) (take-take room count more (omega (arith, over))) ∙ ap (λ n. bytes ++ take n more) same

-- a read within the limit is taken whole
pub Consumes-fits : (a b c : Option (List ℕ)) (bytes more : List ℕ) (count least room : ℕ) → Consumes a b bytes → Consumes b c (take count more)
    → count ≤ room → least ≡ min count room → Consumes a c (bytes ++ take least more)
Consumes-fits a b c bytes more count least room before read fits is =
    let same : count ≡ least = omega (arith, fits, is) in
    subst (Consumes a c) (ap (λ n. bytes ++ take n more) same) (Consumes-trans a b c bytes (take count more) before read)

pub length-read : (bytes more : List ℕ) (count least room : ℕ) → count ≤ length more → least ≡ min count room → length (bytes ++ take least more) ≡ length bytes + least
length-read bytes more count least room held is = omega (arith, held, is, length-append bytes (take least more), length-take least more)

-- an input that cannot be read to its end
pub CutsShort-by : (come : List (List ℕ) → List ℕ → Type 0) (separator : ℕ) (reader left : Option (List ℕ)) (has_failed : Bool) (bytes consumed : List ℕ)
    → Consumes reader left consumed → IsCutShort has_failed (length consumed) → take input_limit consumed ≡ bytes → HasCome come separator bytes
    → CutsShort come separator reader left has_failed
CutsShort-by come separator reader left has_failed bytes consumed lost cause kept has_come =
    record { consumed = consumed; lost = lost; cause = cause; has_come = subst (HasCome come separator) (sym kept) has_come }
