-- The blocks of a file that is written, one after another.
use Rattle.std.proofs.Common.{◌≡◌, ℕ, ◌+◌, ◌-◌, ◌<◌, ◌≤◌, List, ◌∷◌, get_or, length, take, drop, sym, ap, ap₂, ◌∙◌, arith}
use Rattle.std.proofs.Math.ListN.{drop_of_length-le}
use Rattle.std.proofs.Math.Seq.{take-length}
use Rattle.std.proofs.lemmas.Bool.Decides.{nat_tests}
use Rattle.std.proofs.lemmas.Grind.{get_or_default_zero}
use Rattle.std.proofs.lemmas.List.{drop_more, length-drop}
use Rattle.d64_image.specs.Image.{with_sector}
use Rattle.d64_files.specs.Writing.{blocks_for, linked_block, last_block, with_chain}

-- bytes that need several blocks fill the first
pub fills_first : (bytes : ℕ) → 2 ≤ blocks_for bytes → 254 < bytes
fills_first bytes several = grind (arith, nat_tests)

-- without the first block's bytes they need a block less
pub needs_less : (bytes : ℕ) → 254 < bytes → blocks_for bytes ≡ blocks_for (bytes - 254) + 1
needs_less bytes several = grind (arith, nat_tests)

-- some block is always needed
pub needs_one : (bytes : ℕ) → 1 ≤ blocks_for bytes
needs_one bytes = grind (arith, nat_tests)

-- the bytes that are left after the first block's
rest_is : (bytes : List ℕ) → take (length bytes - 254) (drop 254 bytes) ≡ drop 254 bytes
rest_is bytes = ap (λ (n : ℕ). take n (drop 254 bytes)) (sym (length-drop 254 bytes)) ∙ take-length (drop 254 bytes)

-- enough blocks are left for them
pub count_after : (place count : ℕ) (bytes : List ℕ) → place + 1 < count → place + blocks_for (length bytes) ≡ count
    → place + 1 + blocks_for (length (take (length bytes - 254) (drop 254 bytes))) ≡ count
count_after place count bytes within fits =
    let full = fills_first (length bytes) (omega arith) in
    let less = needs_less (length bytes) full in
    ap (λ (n : ℕ). place + 1 + blocks_for n) (ap length (rest_is bytes) ∙ length-drop 254 bytes) ∙ omega arith

-- the first of the blocks that are left was written
pub after_first : (image after : List (List ℕ)) (blocks bytes block : List ℕ) (place here next : ℕ) → place + 1 < length blocks
    → here ≡ get_or blocks place here → next ≡ get_or blocks (place + 1) next → block ≡ linked_block next bytes
    → after ≡ with_sector image here block
    → with_chain after (drop (place + 1) blocks) (take (length bytes - 254) (drop 254 bytes))
    ≡ with_chain image (drop place blocks) bytes
unfolding with_chain
after_first image after blocks bytes block place here next within is_here is_next linked written =
    let left : List ℕ = drop (place + 1) blocks in
    let there : left ≡ get_or blocks (place + 1) 0 ∷ drop (place + 1 + 1) blocks = drop_more blocks (place + 1) 0 within in
    let h : here ≡ get_or blocks place 0 = is_here ∙ get_or_default_zero blocks place here (omega arith) in
    let n : next ≡ get_or blocks (place + 1) 0 = is_next ∙ get_or_default_zero blocks (place + 1) next within in
    ap₂ (λ (i : List (List ℕ)) (content : List ℕ). with_chain i left content) written (rest_is bytes)
    ∙ ap₂ (λ (b : ℕ) (content : List ℕ). with_chain (with_sector image b content) left (drop 254 bytes)) h (linked ∙ ap (λ (k : ℕ). linked_block k bytes) n)
    ∙ ap (λ (bs : List ℕ). with_chain (with_sector image (get_or blocks place 0) (linked_block (get_or blocks (place + 1) 0) bytes)) bs (drop 254 bytes)) there
    ∙ sym (ap (λ (bs : List ℕ). with_chain image bs bytes) (drop_more blocks place 0 (omega arith) ∙ ap (λ (bs : List ℕ). get_or blocks place 0 ∷ bs) there))

-- the last block was written
pub after_last : (image : List (List ℕ)) (blocks bytes block : List ℕ) (place here : ℕ) → place + 1 ≡ length blocks
    → here ≡ get_or blocks place here → block ≡ last_block bytes → with_sector image here block ≡ with_chain image (drop place blocks) bytes
unfolding with_chain
after_last image blocks bytes block place here last is_here written =
    ap₂ (λ (b : ℕ) (content : List ℕ). with_sector image b content) (is_here ∙ get_or_default_zero blocks place here (omega arith)) written
    ∙ sym (ap (λ (bs : List ℕ). with_chain image bs bytes)
    (drop_more blocks place 0 (omega arith) ∙ ap (λ (bs : List ℕ). get_or blocks place 0 ∷ bs) (drop_of_length-le blocks (omega arith))))
