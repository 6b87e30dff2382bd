-- Tests of slots, block after block.
use Rattle.std.proofs.Common.{◌≡◌, ℕ, ◌+◌, ◌*◌, ◌<◌, ◌≤◌, ◌||◌, Bool, true, false, cond, List, [], ◌∷◌, ◌++◌, length, get_or, drop, slice_index_or, subst, Option, Some, None, refl, sym, ap, ◌∙◌, arith}
use Rattle.std.specs.List.{list_any, position_from}
use Rattle.std.specs.Option.{option_or}
use Rattle.std.proofs.Math.ListN.{drop_of_length-le}
use Rattle.std.proofs.lemmas.List.{drop_more}
use Rattle.std.proofs.lemmas.List.Concat.{flat_map-cons}
use Rattle.std.proofs.lemmas.List.Folds.{list_any-append}
use Rattle.std.proofs.lemmas.Grind.{get_or_default_zero}
use Rattle.d64_image.specs.Image.{sector_at}
use Rattle.d64_files.specs.Chain.{LieIn}
use Rattle.d64_files.specs.Slot.{cell, cells}
use Rattle.d64_files.specs.Directory.{directory, slots_in}
use Rattle.d64_files.proofs.SlotLists.{length-cells, get_or-cells, directory-lies}

-- the slots of a block from one on, and those after it
pub cells_more : (bytes : List ℕ) (index : ℕ) → index < 8 → drop index (cells bytes) ≡ cell bytes index ∷ drop (index + 1) (cells bytes)
cells_more bytes index small =
    drop_more (cells bytes) index [] (let long = length-cells bytes in omega arith)
    ∙ ap (λ (first : List ℕ). first ∷ drop (index + 1) (cells bytes)) (get_or-cells bytes index [] small)

-- if a slot doesn't pass, those after it decide
pub any_more : (test : List ℕ → Bool) (bytes : List ℕ) (index : ℕ) → index < 8 → test (cell bytes index) ≡ false
    → list_any test (drop index (cells bytes)) ≡ list_any test (drop (index + 1) (cells bytes))
any_more test bytes index small fails =
    ap (list_any test) (cells_more bytes index small) ∙ ap (λ (b : Bool). b || list_any test (drop (index + 1) (cells bytes))) fails

-- and if one does, it decides
pub any_found : (test : List ℕ → Bool) (bytes : List ℕ) (index : ℕ) → index < 8 → test (cell bytes index) ≡ true
    → list_any test (drop index (cells bytes)) ≡ true
any_found test bytes index small passes =
    ap (list_any test) (cells_more bytes index small) ∙ ap (λ (b : Bool). b || list_any test (drop (index + 1) (cells bytes))) passes

-- past the last slot no slot passes
pub any_past : (test : List ℕ → Bool) (bytes : List ℕ) (index : ℕ) → 8 ≤ index → list_any test (drop index (cells bytes)) ≡ false
any_past test bytes index past = ap (list_any test) (drop_of_length-le (cells bytes) {i = index} (let long = length-cells bytes in omega arith))

-- if a slot doesn't pass, the first that does is one after it
pub position_more : (test : List ℕ → Bool) (bytes : List ℕ) (first index : ℕ) → index < 8 → test (cell bytes index) ≡ false
    → position_from test (first + index) (drop index (cells bytes)) ≡ position_from test (first + (index + 1)) (drop (index + 1) (cells bytes))
position_more test bytes first index small fails =
    ap (position_from test (first + index)) (cells_more bytes index small)
    ∙ ap (λ (b : Bool). cond b (Some (first + index)) (position_from test ((first + index) + 1) (drop (index + 1) (cells bytes)))) fails
    ∙ ap (λ (n : ℕ). position_from test n (drop (index + 1) (cells bytes))) (let e : (first + index) + 1 ≡ first + (index + 1) = omega arith in e)

-- and if one does, it is the first
pub position_found : (test : List ℕ → Bool) (bytes : List ℕ) (first index : ℕ) → index < 8 → test (cell bytes index) ≡ true
    → position_from test (first + index) (drop index (cells bytes)) ≡ Some (first + index)
position_found test bytes first index small passes =
    ap (position_from test (first + index)) (cells_more bytes index small)
    ∙ ap (λ (b : Bool). cond b (Some (first + index)) (position_from test ((first + index) + 1) (drop (index + 1) (cells bytes)))) passes

-- past the last slot there is no slot
pub position_past : (test : List ℕ → Bool) (bytes : List ℕ) (first index : ℕ) → 8 ≤ index → position_from test first (drop index (cells bytes)) ≡ None
position_past test bytes first index past = ap (position_from test first) (drop_of_length-le (cells bytes) {i = index} (let long = length-cells bytes in omega arith))

-- the slots of blocks from one on, and those after it
pub slots_more : (image : List (List ℕ)) (blocks : List ℕ) (place : ℕ) → place < length blocks
    → slots_in image (drop place blocks) ≡ cells (sector_at image (get_or blocks place 0)) ++ slots_in image (drop (place + 1) blocks)
slots_more image blocks place within =
    ap (slots_in image) (drop_more blocks place 0 within)
    ∙ flat_map-cons (λ (b : ℕ). cells (sector_at image b)) (get_or blocks place 0) (drop (place + 1) blocks)

-- the image has a block of its directory
pub block_lies : (image other : List (List ℕ)) (items : List ℕ) (place block : ℕ) → other ≡ image → items ≡ directory image → place < length items
    → block ≡ slice_index_or items place block → block < length other
block_lies image other items place block same all within here =
    subst (λ (i : List (List ℕ)). block < length i) (sym same)
    (subst (λ (b : ℕ). b < length image) (sym here) (subst (LieIn image) (sym all) (directory-lies image) place block within))

-- a slot of blocks from one on passes if one of that block does, or one of those after it
pub any_of_block : (test : List ℕ → Bool) (image other : List (List ℕ)) (items : List ℕ) (place block : ℕ) (result : Bool) → other ≡ image → place < length items
    → block ≡ slice_index_or items place block → result ≡ list_any test (cells (sector_at other block))
    → list_any test (slots_in image (drop place items)) ≡ (result || list_any test (slots_in image (drop (place + 1) items)))
any_of_block test image other items place block result same within here is =
    let rest = slots_in image (drop (place + 1) items) in
    ap (list_any test) (slots_more image items place within)
    ∙ list_any-append test (cells (sector_at image (get_or items place 0))) rest
    ∙ ap (λ (b : ℕ). list_any test (cells (sector_at image b)) || list_any test rest) (sym (here ∙ get_or_default_zero items place block within))
    ∙ ap (λ (i : List (List ℕ)). list_any test (cells (sector_at i block)) || list_any test rest) (sym same)
    ∙ ap (λ (b : Bool). b || list_any test rest) (sym is)

-- past the last block no slot is left
pub none_left : (image : List (List ℕ)) (items : List ℕ) (place : ℕ) → length items ≤ place → slots_in image (drop place items) ≡ []
none_left image items place past = ap (slots_in image) (drop_of_length-le items {i = place} past)

-- the first slot that passes is one of a block's, or else of those after it
pub position-append : (test : List ℕ → Bool) (n : ℕ) (first rest : List (List ℕ))
    → position_from test n (first ++ rest) ≡ option_or (position_from test n first) (position_from test (n + length first) rest)
position-append test n [] rest = ap (λ (m : ℕ). position_from test m rest) (let e : n ≡ n + 0 = omega arith in e)
position-append test n (cell ∷ first) rest = by_test (test cell) (further cell (position-append test (n + 1) first rest))
  where
    after : ℕ → Option ℕ
    after m = position_from test m rest

    further : (cell : List ℕ) → position_from test (n + 1) (first ++ rest) ≡ option_or (position_from test (n + 1) first) (after ((n + 1) + length first))
        → position_from test (n + 1) (first ++ rest) ≡ option_or (position_from test (n + 1) first) (after (n + length (cell ∷ first)))
    further cell is = is ∙ ap (λ (m : ℕ). option_or (position_from test (n + 1) first) (after m)) (let e : (n + 1) + length first ≡ n + length (cell ∷ first) = omega arith in e)

    by_test : (b : Bool) → position_from test (n + 1) (first ++ rest) ≡ option_or (position_from test (n + 1) first) (after (n + length (cell ∷ first)))
        → cond b (Some n) (position_from test (n + 1) (first ++ rest)) ≡ option_or (cond b (Some n) (position_from test (n + 1) first)) (after (n + length (cell ∷ first)))
    by_test true is = refl
    by_test false is = is

-- the first slot of blocks from one on that passes is one of that block's, or else of those after it
pub position_of_block : (test : List ℕ → Bool) (image other : List (List ℕ)) (items sector : List ℕ) (place block : ℕ) (result : Option ℕ) → other ≡ image
    → place < length items → block ≡ slice_index_or items place block → sector ≡ sector_at other block
    → result ≡ position_from test (8 * place) (cells sector)
    → position_from test (8 * place) (slots_in image (drop place items)) ≡ option_or result (position_from test (8 * (place + 1)) (slots_in image (drop (place + 1) items)))
position_of_block test image other items sector place block result same within here content is =
    let rest = slots_in image (drop (place + 1) items) in
    let first = cells (sector_at image (get_or items place 0)) in
    let read : first ≡ cells sector =
    ap (λ (b : ℕ). cells (sector_at image b)) (sym (here ∙ get_or_default_zero items place block within))
    ∙ ap (λ (i : List (List ℕ)). cells (sector_at i block)) (sym same) ∙ ap cells (sym content) in
    let next : 8 * place + length first ≡ 8 * (place + 1) = let long = length-cells (sector_at image (get_or items place 0)) in omega arith in
    ap (position_from test (8 * place)) (slots_more image items place within)
    ∙ position-append test (8 * place) first rest
    ∙ ap (λ (n : ℕ). option_or (position_from test (8 * place) first) (position_from test n rest)) next
    ∙ ap (λ (found : Option ℕ). option_or found (position_from test (8 * (place + 1)) rest)) (ap (position_from test (8 * place)) read ∙ sym is)
