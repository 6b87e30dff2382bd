-- The bytes of a dump.
use Rattle.std.proofs.Common.{◌≡◌, ℕ, ◌+◌, ◌*◌, Bool, true, false, cond, eqb, Some, None, sym, List, [], ◌∷◌, ◌++◌, length, take, drop, refl, ap, ap₂, ◌∙◌, inl, inr, arith, length-append}
use Rattle.std.specs.Prelude.{All, ◌⊎◌}
use Rattle.std.proofs.lemmas.Bool.{eqb-true}
use Rattle.std.proofs.lemmas.List.{take-append-drop}
use Rattle.std.proofs.lemmas.List.Elements.{All-head, All-tail}
use Rattle.d64_image.specs.Image.{IsBlock, IsImage, bytes_of}
use Rattle.d64_survey.specs.Dump.{HasCodes, image_bytes, codes_in, code_bytes}

-- an image has 256 bytes a block
length-bytes : (image : List (List ℕ)) → All IsBlock image → length (bytes_of image) ≡ length image * 256
length-bytes [] each = refl
length-bytes (sector ∷ image) each =
    let here = (All-head IsBlock sector image each).0 in
    let rest = length-bytes image (All-tail IsBlock sector image each) in
    omega (arith, length-append sector (bytes_of image))

-- an image of n bytes, and the same with its codes
abbrev pub IsCoded : ℕ → ℕ → Type 0
IsCoded of_image all = ((of_image ≡ 174848) × (all ≡ 175531)) ⊎ ((of_image ≡ 196608) × (all ≡ 197376))

-- which is which, by the length of all
by_tests : (a b c d : Bool) (of_image all : ℕ) → eqb all 174848 ≡ a → eqb all 175531 ≡ b → eqb all 196608 ≡ c → eqb all 197376 ≡ d
    → Some of_image ≡ cond a (Some 174848) (cond b (Some 174848) (cond c (Some 196608) (cond d (Some 196608) None))) → (all ≡ of_image → ⊥) → IsCoded of_image all
by_tests true b c d of_image all ta tb tc td e more = let f : Some of_image ≡ Some 174848 = e in let s : of_image ≡ 174848 = cc in absurd (more (eqb-true all 174848 ta ∙ sym s))
by_tests false true c d of_image all ta tb tc td e more = let f : Some of_image ≡ Some 174848 = e in let s : of_image ≡ 174848 = cc in inl (s, eqb-true all 175531 tb)
by_tests false false true d of_image all ta tb tc td e more = let f : Some of_image ≡ Some 196608 = e in let s : of_image ≡ 196608 = cc in absurd (more (eqb-true all 196608 tc ∙ sym s))
by_tests false false false true of_image all ta tb tc td e more = let f : Some of_image ≡ Some 196608 = e in let s : of_image ≡ 196608 = cc in inr (s, eqb-true all 197376 td)
by_tests false false false false of_image all ta tb tc td e more = absurd (let f : Some of_image ≡ None = e in cc)

pub coded_by : (of_image all : ℕ) → Some of_image ≡ image_bytes all → (all ≡ of_image → ⊥) → IsCoded of_image all
coded_by of_image all e more = by_tests (eqb all 174848) (eqb all 175531) (eqb all 196608) (eqb all 197376) of_image all refl refl refl refl e more

-- what follows the image's bytes has a code for each block
pub codes_fit : (image : List (List ℕ)) (front codes : List ℕ) (of_image all : ℕ) → IsImage image → bytes_of image ≡ front → length front ≡ of_image
    → length codes + of_image ≡ all → IsCoded of_image all → length codes ≡ length image
codes_fit image front codes of_image all is kept front_len back_len coded =
    let long = length-bytes image is.1 in
    let same = ap length kept in
    elim coded [
      | inl fewer ↦ let a = fewer.0 in let b = fewer.1 in omega arith
      | inr more ↦ let a = more.0 in let b = more.1 in omega arith
    ]

-- bytes as codes are those bytes
bytes_of_codes : (codes : List ℕ) → code_bytes (codes_in codes) ≡ codes
bytes_of_codes [] = refl
bytes_of_codes (code ∷ codes) = refl

-- if there are codes there is one for each block
some_fit : (image : List (List ℕ)) (codes : List ℕ) → ((length codes ≡ 0 → ⊥) → length codes ≡ length image) → HasCodes image (codes_in codes)
some_fit image [] h = tt
some_fit image (code ∷ codes) h = h (λ (none : length (code ∷ codes) ≡ 0). omega arith)

-- what follows the image's bytes are codes for it, or nothing
pub dump_fits : (image : List (List ℕ)) (front back codes : List ℕ) (of_image all : ℕ) → Some of_image ≡ image_bytes all → IsImage image → bytes_of image ≡ front
    → length front ≡ of_image → length back + of_image ≡ all → codes ≡ back → HasCodes image (codes_in codes)
dump_fits image front back codes of_image all coded is kept front_len back_len same =
    let long = ap length same in
    some_fit image codes (λ some. long ∙ codes_fit image front back of_image all is kept front_len back_len (coded_by of_image all coded (λ none. some (omega arith))))

-- the image's bytes and the codes are all bytes
pub dump_kept : (image bytes front back codes : List ℕ) (count : ℕ) → image ≡ front → front ≡ take count bytes → back ≡ drop count bytes → codes ≡ back
    → image ++ code_bytes (codes_in codes) ≡ bytes
dump_kept image bytes front back codes count kept is_front is_back same =
    ap₂ (λ (a b : List ℕ). a ++ b) (kept ∙ is_front) (bytes_of_codes codes ∙ same ∙ is_back) ∙ take-append-drop count bytes
