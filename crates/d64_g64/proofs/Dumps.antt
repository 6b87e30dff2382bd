-- The bytes of a dump give that dump back.
use Rattle.std.proofs.Common.{◌≡◌, ℕ, ◌+◌, ◌*◌, ◌/◌, List, [], ◌∷◌, ◌++◌, Option, Some, None, length, take, drop, refl, sym, ap, ap₂, ◌∙◌, inl, inr, arith, length-append, if◌then◌else◌}
use Rattle.std.specs.Prelude.{All, ◌⊎◌, ◌&&◌, option_map, unwrap_or, is_some, Bool, true, false}
use Rattle.std.specs.Option.{option_or}
use Rattle.std.specs.Simd.{first_chunks}
use Rattle.std.proofs.Math.Seq.{take-append_seam, drop-append_seam}
use Rattle.std.proofs.lemmas.List.Elements.{All-head, All-tail}
use Rattle.d64_image.specs.Image.{IsBlock, IsSize, bytes_of}
use Rattle.d64_survey.specs.Dump.{DumpView, IsDump, HasCodes, dump_bytes, code_bytes, codes_in, image_bytes}
use Rattle.d64_g64.specs.File.{begins_as_g64, is_g64}
use Rattle.d64_g64.specs.Dump.{g64_dump}
use Rattle.d64_g64.specs.DumpOf.{d64_dump, dump_of, dump_of_g64, dump_with}

-- an image has 256 bytes a block
length-bytes : (image : List (List ℕ)) → All IsBlock image → length (bytes_of image) ≡ length image * 256
length-bytes [] each = refl
length-bytes (sector ∷ image) each =
    let here = (All-head IsBlock sector image each).0 in
    let rest = length-bytes image (All-tail IsBlock sector image each) in
    omega (arith, length-append sector (bytes_of image))

-- the bytes of blocks, cut into blocks
chunks_back : (image : List (List ℕ)) → All IsBlock image → first_chunks 256 (length image) (bytes_of image) ≡ image
chunks_back [] each = refl
chunks_back (sector ∷ image) each =
    let here : length sector ≡ 256 = (All-head IsBlock sector image each).0 in
    let first : take 256 (sector ++ bytes_of image) ≡ sector = ap (λ (n : ℕ). take n (sector ++ bytes_of image)) (sym here) ∙ take-append_seam sector (bytes_of image) in
    let rest : drop 256 (sector ++ bytes_of image) ≡ bytes_of image = ap (λ (n : ℕ). drop n (sector ++ bytes_of image)) (sym here) ∙ drop-append_seam sector (bytes_of image) in
    ap₂ (λ (x : List ℕ) (xs : List (List ℕ)). x ∷ xs) first
    (ap (first_chunks 256 (length image)) rest ∙ chunks_back image (All-tail IsBlock sector image each))

-- how many bytes the image has, by how many all are
image_part : (count codes all : ℕ) → IsSize count → (codes ≡ 0) ⊎ (codes ≡ count) → all ≡ count * 256 + codes → image_bytes all ≡ Some (count * 256)
image_part count codes all (inl few) (inl none) is = ap image_bytes (is ∙ ap₂ (λ (a b : ℕ). a * 256 + b) few none) ∙ sym (ap (λ (n : ℕ). Some (n * 256)) few)
image_part count codes all (inr many) (inl none) is = ap image_bytes (is ∙ ap₂ (λ (a b : ℕ). a * 256 + b) many none) ∙ sym (ap (λ (n : ℕ). Some (n * 256)) many)
image_part count codes all (inl few) (inr each) is = ap image_bytes (is ∙ ap₂ (λ (a b : ℕ). a * 256 + b) few (each ∙ few)) ∙ sym (ap (λ (n : ℕ). Some (n * 256)) few)
image_part count codes all (inr many) (inr each) is = ap image_bytes (is ∙ ap₂ (λ (a b : ℕ). a * 256 + b) many (each ∙ many)) ∙ sym (ap (λ (n : ℕ). Some (n * 256)) many)

-- there are no codes, or one for each block
codes_counted : (image : List (List ℕ)) (codes : Option (List ℕ)) → HasCodes image codes → (length (code_bytes codes) ≡ 0) ⊎ (length (code_bytes codes) ≡ length image)
codes_counted image None has = inl refl
codes_counted image (Some codes) has = inr has

-- an image has blocks
no_size : (n : ℕ) → IsSize n → n ≡ 0 → ⊥
no_size n (inl few) none = omega (arith, few, none)
no_size n (inr many) none = omega (arith, many, none)

-- codes as bytes are those codes
codes_back : (image : List (List ℕ)) (codes : Option (List ℕ)) → IsSize (length image) → HasCodes image codes → codes_in (code_bytes codes) ≡ codes
codes_back image None size has = refl
codes_back image (Some []) size has = absurd (no_size (length image) size (sym has))
codes_back image (Some (code ∷ codes)) size has = refl

-- the bytes of a dump are that dump
pub d64_dump-bytes : (dump : DumpView) (bytes : List ℕ) → IsDump dump → dump_bytes dump ≡ bytes → d64_dump bytes ≡ Some dump
unfolding d64_dump
d64_dump-bytes dump bytes is kept =
    let image = dump.image in
    let count = length image * 256 in
    let long : length (bytes_of image) ≡ count = length-bytes image is.0.1 in
    let all : length bytes ≡ count + length (code_bytes dump.codes) = ap length (sym kept) ∙ length-append (bytes_of image) (code_bytes dump.codes) ∙ ap (λ (n : ℕ). n + length (code_bytes dump.codes)) long in
    let part = image_part (length image) (length (code_bytes dump.codes)) (length bytes) is.0.0 (codes_counted image dump.codes is.1) all in
    let front : take count bytes ≡ bytes_of image = ap₂ (λ (n : ℕ) (l : List ℕ). take n l) (sym long) (sym kept) ∙ take-append_seam (bytes_of image) (code_bytes dump.codes) in
    let back : drop count bytes ≡ code_bytes dump.codes = ap₂ (λ (n : ℕ) (l : List ℕ). drop n l) (sym long) (sym kept) ∙ drop-append_seam (bytes_of image) (code_bytes dump.codes) in
    let blocks : count / 256 ≡ length image = omega arith in
    ap (option_map (dump_with bytes)) part
    ∙ ap Some (ap₂ (λ (i : List (List ℕ)) (c : Option (List ℕ)). record { image = i; codes = c })
    (ap₂ (λ (n : ℕ) (l : List ℕ). first_chunks 256 n l) blocks front ∙ chunks_back image is.0.1)
    (ap codes_in back ∙ codes_back image dump.codes is.0.0 is.1))

pub dump_of-bytes : (dump : DumpView) (bytes : List ℕ) → IsDump dump → dump_bytes dump ≡ bytes → dump_of bytes ≡ Some dump
unfolding dump_of
dump_of-bytes dump bytes is kept = ap (λ (o : Option DumpView). option_or o (dump_of_g64 bytes)) (d64_dump-bytes dump bytes is kept)

-- dumps of the same bytes are one
pub same_dump : (dump other : DumpView) → IsDump dump → IsDump other → dump_bytes dump ≡ dump_bytes other → dump ≡ other
same_dump dump other is other_is same =
    ap (λ o. unwrap_or o dump) (sym (d64_dump-bytes dump (dump_bytes other) is same) ∙ d64_dump-bytes other (dump_bytes other) other_is refl)

-- a dump has one of the lengths
pub some_length : (dump : DumpView) (bytes : List ℕ) → IsDump dump → dump_bytes dump ≡ bytes → is_some (image_bytes (length bytes)) ≡ true
unfolding d64_dump
some_length dump bytes is kept = by_map (image_bytes (length bytes)) (d64_dump-bytes dump bytes is kept)
  where
    by_map : (part : Option ℕ) → option_map (dump_with bytes) part ≡ Some dump → is_some part ≡ true
    by_map None e = absurd (cc)
    by_map (Some count) e = refl

-- no D64 has a length that is refused
pub no_part : {A : Type 0} → (known : Option ℕ) (part : Option A) (n m : ℕ) → known ≡ Some n → known ≡ (if is_some part then None else Some m) → part ≡ None
no_part known None n m is refused = refl
no_part known (Some part) n m is refused = cc

-- bytes of a length that is not refused are a D64
pub a_part : (bytes : List ℕ) (n : ℕ) → None ≡ (if is_some (image_bytes (length bytes)) then None else Some n) → is_some (dump_of bytes) ≡ true
unfolding dump_of d64_dump
a_part bytes n kept = by_part (image_bytes (length bytes)) kept
  where
    by_part : (part : Option ℕ) → None ≡ (if is_some part then None else Some n) → is_some (option_or (option_map (dump_with bytes) part) (dump_of_g64 bytes)) ≡ true
    by_part None e = absurd (cc)
    by_part (Some count) e = refl

-- what is no D64 is a G64 or nothing
pub of_g64 : (bytes : List ℕ) (begins sound : Bool) → image_bytes (length bytes) ≡ None → begins ≡ begins_as_g64 bytes → sound ≡ is_g64 bytes
    → (if begins && sound then Some (g64_dump bytes) else None) ≡ dump_of bytes
unfolding dump_of d64_dump dump_of_g64
of_g64 bytes begins sound none begins_is sound_is =
    ap₂ (λ (a b : Bool). if a && b then Some (g64_dump bytes) else None) begins_is sound_is
    ∙ sym (ap (λ (part : Option ℕ). option_or (option_map (dump_with bytes) part) (dump_of_g64 bytes)) none)

-- a file is a G64 by its signature and its tracks
pub by_g64 : (bytes : List ℕ) (begins : Bool) → begins ≡ begins_as_g64 bytes → (if begins && is_g64 bytes then Some (g64_dump bytes) else None) ≡ dump_of_g64 bytes
unfolding dump_of_g64
by_g64 bytes begins is = ap (λ (b : Bool). if b && is_g64 bytes then Some (g64_dump bytes) else None) is

-- what is no D64 is the dump that it is as a G64
pub no_d64 : (bytes : List ℕ) → image_bytes (length bytes) ≡ None → dump_of_g64 bytes ≡ dump_of bytes
unfolding dump_of d64_dump
no_d64 bytes none = sym (ap (λ (part : Option ℕ). option_or (option_map (dump_with bytes) part) (dump_of_g64 bytes)) none)

-- a D64 is a dump
pub d64_is_one : (bytes : List ℕ) → is_some (image_bytes (length bytes)) ≡ true → true ≡ is_some (dump_of bytes)
unfolding dump_of d64_dump
d64_is_one bytes there = by_part (image_bytes (length bytes)) there
  where
    by_part : (part : Option ℕ) → is_some part ≡ true → true ≡ is_some (option_or (option_map (dump_with bytes) part) (dump_of_g64 bytes))
    by_part None e = absurd (cc)
    by_part (Some count) e = refl

-- other bytes are a dump if they are a G64
pub g64_is_one : (bytes : List ℕ) (begins sound : Bool) → is_some (image_bytes (length bytes)) ≡ false → begins ≡ begins_as_g64 bytes → sound ≡ is_g64 bytes
    → (begins && sound) ≡ is_some (dump_of bytes)
g64_is_one bytes begins sound none begins_is sound_is =
    test (begins && sound) ∙ ap is_some (of_g64 bytes begins sound (no_image (image_bytes (length bytes)) none) begins_is sound_is)
  where
    no_image : (part : Option ℕ) → is_some part ≡ false → part ≡ None
    no_image None e = refl
    no_image (Some count) e = absurd (cc)

    test : (b : Bool) → b ≡ is_some (if b then Some (g64_dump bytes) else None)
    test true = refl
    test false = refl
