-- what an entry in a slot of the directory leaves
use Rattle.std.proofs.Common.{◌≡◌, ◌≢◌, ℕ, ◌+◌, ◌-◌, ◌*◌, ◌/◌, ◌%◌, ◌<◌, ◌≤◌, ◌||◌, Bool, true, false, cond, eqb, ltb, List, [], ◌∷◌, ◌++◌, length, get_or, take, drop, set, Option, Some, None, refl, sym, ap, ap₂, ◌∙◌, subst, inl, inr, arith}
use Rattle.std.specs.Prelude.{All}
use Rattle.std.specs.List.{list_any, IsDistinct}
use Rattle.std.specs.Option.{option_and_then, option_map_or}
use Rattle.std.proofs.lemmas.Bool.{cases_lt, cases_eq, eq-eqb, or_right}
use Rattle.std.proofs.lemmas.List.{ext_get_or, get_or-set_same, get_or-set_other, get_or-take, get_or-drop, get_or_append_left, get_or-append_right, length-append, length-take-le, length-drop, length-set}
use Rattle.std.proofs.lemmas.List.Concat.{flat_map-cons}
use Rattle.std.proofs.lemmas.List.Elements.{All-get_or, All-set, All-take, All-drop, All-append}
use Rattle.std.proofs.lemmas.List.Folds.{list_any_at}
use Rattle.std.proofs.lemmas.Map.Keys.{apart_from_distinct}
use Rattle.d64_image.specs.declared.image.TheConstants.{BLOCK_BYTES}
use Rattle.d64_image.specs.Image.{IsBlock, IsSize, IsImage, sector_at}
use Rattle.d64_files.specs.Chain.{Chain, chain, chain_by, block_in, held_block, link_at, link_of}
use Rattle.d64_files.specs.Directory.{directory, slots, slots_in}
use Rattle.d64_files.specs.Slot.{cell, cells}
use Rattle.d64_files.specs.Writing.{written_at, slot_block, slot_start, with_entry}
use Rattle.d64_files.proofs.Chains.{chain-is, is_chain, kept, distinct, within}
use Rattle.d64_files.proofs.WrittenBytes.{length-written_at}
use Rattle.d64_files.proofs.SlotLists.{length-slots_in, slot_at_place}
use Rattle.d64_files.specs.Directory.{directory_start}
use Rattle.d64_effects.proofs.Places.{directory_start-place}

-- bytes before the part that is written over others stay
pub get_or-written_before : (bytes part : List ℕ) (start k : ℕ) → start ≤ length bytes → k < start
    → get_or (written_at bytes start part) k 0 ≡ get_or bytes k 0
unfolding written_at
get_or-written_before bytes part start k fits h =
    let l = length-take-le start bytes fits in
    get_or_append_left (take start bytes) (part ++ drop (start + length part) bytes) 0 k (omega arith) ∙ get_or-take start bytes k 0 h

-- then comes the part
pub get_or-written_within : (bytes part : List ℕ) (start k : ℕ) → start ≤ length bytes → k < length part
    → get_or (written_at bytes start part) (start + k) 0 ≡ get_or part k 0
unfolding written_at
get_or-written_within bytes part start k fits h =
    let e : start + k - start ≡ k = omega arith in
    get_or-append_right (take start bytes) (part ++ drop (start + length part) bytes) start (start + k) 0 (length-take-le start bytes fits) (omega arith)
    ∙ ap (λ (n : ℕ). get_or (part ++ drop (start + length part) bytes) n 0) e
    ∙ get_or_append_left part (drop (start + length part) bytes) 0 k h

-- and bytes past it stay
pub get_or-written_past : (bytes part : List ℕ) (start k : ℕ) → start ≤ length bytes → start + length part ≤ k
    → get_or (written_at bytes start part) k 0 ≡ get_or bytes k 0
unfolding written_at
get_or-written_past bytes part start k fits h =
    let e : start + length part + (k - start - length part) ≡ k = omega arith in
    get_or-append_right (take start bytes) (part ++ drop (start + length part) bytes) start k 0 (length-take-le start bytes fits) (omega arith)
    ∙ get_or-append_right part (drop (start + length part) bytes) (length part) (k - start) 0 refl (omega arith)
    ∙ get_or-drop (start + length part) bytes (k - start - length part) 0
    ∙ ap (λ (n : ℕ). get_or bytes n 0) e

-- what holds of all bytes and of all of the part holds of all that is left
pub All-written_at : (P : ℕ → Type 0) (bytes part : List ℕ) (start : ℕ) → All P bytes → All P part → All P (written_at bytes start part)
unfolding written_at
All-written_at P bytes part start all more =
    All-append P (take start bytes) (part ++ drop (start + length part) bytes) (All-take P start bytes all)
    (All-append P part (drop (start + length part) bytes) more (All-drop P (start + length part) bytes all))

-- a block stays one
pub IsBlock-written_at : (bytes part : List ℕ) (start : ℕ) → IsBlock bytes → start + length part ≤ BLOCK_BYTES → All (λ byte. byte < 256) part
    → IsBlock (written_at bytes start part)
IsBlock-written_at bytes part start is fits more =
    (length-written_at bytes part start (let l = is.0 in omega arith) ∙ is.0, All-written_at (λ byte. byte < 256) bytes part start is.1 more)

-- a slot of a block has 32 bytes
pub length-cell : (bytes : List ℕ) (i : ℕ) → length bytes ≡ BLOCK_BYTES → i < 8 → length (cell bytes i) ≡ 32
length-cell bytes i long small = length-take-le 32 (drop (32 * i) bytes) (omega (arith, length-drop (32 * i) bytes))

-- a byte of a slot
pub get_or-cell : (bytes : List ℕ) (i k : ℕ) → k < 32 → get_or (cell bytes i) k 0 ≡ get_or bytes (32 * i + k) 0
get_or-cell bytes i k h = get_or-take 32 (drop (32 * i) bytes) k 0 h ∙ get_or-drop (32 * i) bytes k 0

-- slots of blocks with the same bytes there are equal
cells_alike : (bytes other : List ℕ) (i : ℕ) → length bytes ≡ BLOCK_BYTES → length other ≡ BLOCK_BYTES → i < 8
    → ((k : ℕ) → k < 32 → get_or other (32 * i + k) 0 ≡ get_or bytes (32 * i + k) 0) → cell other i ≡ cell bytes i
cells_alike bytes other i long other_long small alike =
    let l = length-cell bytes i long small in
    let m = length-cell other i other_long small in
    ext_get_or 0 (cell other i) (cell bytes i) (m ∙ sym l) (λ k h.
    let inside : k < 32 = omega arith in get_or-cell other i k inside ∙ alike k inside ∙ sym (get_or-cell bytes i k inside))

-- the slots beside the one that is written stay
other_cell : (bytes entry : List ℕ) (i j : ℕ) → length bytes ≡ BLOCK_BYTES → length entry ≡ 30 → i < 8 → j < 8 → j ≢ i
    → cell (written_at bytes (32 * i + 2) entry) j ≡ cell bytes j
other_cell bytes entry i j long full ismall jsmall apart =
    cells_alike bytes (written_at bytes (32 * i + 2) entry) j long (length-written_at bytes entry (32 * i + 2) (omega arith) ∙ long) jsmall (λ k h.
    elim (cases_lt j i) [
      | inl below ↦ get_or-written_before bytes entry (32 * i + 2) (32 * j + k) (omega arith) (omega arith)
      | inr above ↦ get_or-written_past bytes entry (32 * i + 2) (32 * j + k) (omega arith) (let more : i < j = omega arith in omega arith)
    ])

-- the slot that is written keeps its first two bytes, the link in a block's first slot, and then
-- holds the entry
same_cell : (bytes entry : List ℕ) (i : ℕ) → length bytes ≡ BLOCK_BYTES → length entry ≡ 30 → i < 8
    → cell (written_at bytes (32 * i + 2) entry) i ≡ take 2 (cell bytes i) ++ entry
same_cell bytes entry i long full small =
    let w : List ℕ = written_at bytes (32 * i + 2) entry in
    let l = length-cell bytes i long small in
    let m = length-cell w i (length-written_at bytes entry (32 * i + 2) (omega arith) ∙ long) small in
    let two : length (take 2 (cell bytes i)) ≡ 2 = length-take-le 2 (cell bytes i) (omega arith) in
    let n = length-append (take 2 (cell bytes i)) entry in
    ext_get_or 0 (cell w i) (take 2 (cell bytes i) ++ entry) (omega arith) (λ k h.
    let inside : k < 32 = omega arith in
    get_or-cell w i k inside
    ∙ elim (cases_lt k 2) [
      | inl below ↦
          get_or-written_before bytes entry (32 * i + 2) (32 * i + k) (omega arith) (omega arith)
          ∙ sym (get_or_append_left (take 2 (cell bytes i)) entry 0 k (omega arith) ∙ get_or-take 2 (cell bytes i) k 0 below ∙ get_or-cell bytes i k inside)
      | inr above ↦
          let e : 32 * i + k ≡ 32 * i + 2 + (k - 2) = omega arith in
          ap (λ (x : ℕ). get_or w x 0) e
          ∙ get_or-written_within bytes entry (32 * i + 2) (k - 2) (omega arith) (omega arith)
          ∙ sym (get_or-append_right (take 2 (cell bytes i)) entry 2 k 0 two above)
    ])

-- the directory is the chain from its first block
pub directory-is_chain : (image : List (List ℕ)) → directory image ≡ chain image directory_start
unfolding block_in chain
directory-is_chain image =
    ap (λ (block : Option ℕ). option_map_or (chain image) (option_and_then (held_block image) block) []) directory_start-place
    ∙ by_test (ltb directory_start (length image)) refl
  where
    by_test : (t : Bool) → ltb directory_start (length image) ≡ t
        → option_map_or (chain image) (cond t (Some directory_start) None) [] ≡ chain image directory_start
    by_test true e = refl
    by_test false e = sym (ap (λ (b : Bool). cond b (chain_by (length image) image directory_start (link_of image directory_start)) []) e)

-- if there is a directory, it is the chain that the relation admits
pub Chain-directory : (image : List (List ℕ)) → directory image ≢ [] → Chain image directory_start (directory image)
Chain-directory image some = is_chain image directory_start (directory image) (sym (directory-is_chain image)) some

-- and a chain from its first block is the directory
pub directory-from_Chain : (image : List (List ℕ)) (blocks : List ℕ) → Chain image directory_start blocks → directory image ≡ blocks
directory-from_Chain image blocks h = directory-is_chain image ∙ chain-is image directory_start blocks h

-- the same link in the same bytes
pub link_same : (image other : List (List ℕ)) (block : ℕ) → sector_at other block ≡ sector_at image block → link_at other block ≡ link_at image block
link_same image other block e = ap (λ (bytes : List ℕ). (get_or bytes 0 0, get_or bytes 1 0)) e

-- the directory needs only the links of its blocks
pub directory-same : (image other : List (List ℕ)) → directory image ≢ [] → length other ≡ length image
    → ((block : ℕ) → list_any (eqb block) (directory image) ≡ true → link_at other block ≡ link_at image block) → directory other ≡ directory image
directory-same image other some long alike =
    directory-from_Chain other (directory image) (kept image other directory_start (directory image) (Chain-directory image some) long alike)

-- if there is a slot, there is a directory
pub directory-of_slot : (image : List (List ℕ)) (slot : ℕ) → slot < length (slots image) → directory image ≢ []
directory-of_slot image slot there none =
    let e : length (slots image) ≡ 0 = ap (λ (blocks : List ℕ). length (slots_in image blocks)) none in absurd (omega arith)

-- the slots of blocks need only these blocks
pub slots-same : (image other : List (List ℕ)) (blocks : List ℕ)
    → ((block : ℕ) → list_any (eqb block) blocks ≡ true → sector_at other block ≡ sector_at image block) → slots_in other blocks ≡ slots_in image blocks
slots-same image other [] alike = refl
slots-same image other (block ∷ blocks) alike =
    flat_map-cons (λ (b : ℕ). cells (sector_at other b)) block blocks
    ∙ ap₂ (λ (xs ys : List (List ℕ)). xs ++ ys) (ap cells (alike block (ap (λ (t : Bool). t || list_any (eqb block) blocks) (eq-eqb block block refl))))
    (slots-same image other blocks (λ b found. alike b (or_right (eqb b block) (list_any (eqb b) blocks) found)))
    ∙ sym (flat_map-cons (λ (b : ℕ). cells (sector_at image b)) block blocks)

-- the block of a slot comes at its place in the directory
pub slot_place : (image : List (List ℕ)) (slot : ℕ) → slot < length (slots image) → slot / 8 < length (directory image)
slot_place image slot there = omega (arith, length-slots_in image (directory image))

-- the block of a slot is one of the directory's
pub slot_block-is_held : (image : List (List ℕ)) (slot : ℕ) → slot < length (slots image)
    → list_any (eqb (slot_block image slot)) (directory image) ≡ true
slot_block-is_held image slot there =
    list_any_at (eqb (slot_block image slot)) (directory image) (slot / 8) 0 (slot_place image slot there)
    (eq-eqb (slot_block image slot) (slot_block image slot) refl)

-- the directory's blocks are blocks of the image
pub directory-within : (image : List (List ℕ)) (block : ℕ) → directory image ≢ [] → list_any (eqb block) (directory image) ≡ true → block < length image
directory-within image block some found = within image directory_start (directory image) (Chain-directory image some) block found

-- so is the block of a slot
pub slot_block-within : (image : List (List ℕ)) (slot : ℕ) → directory image ≢ [] → slot < length (slots image) → slot_block image slot < length image
slot_block-within image slot some there = directory-within image (slot_block image slot) some (slot_block-is_held image slot there)

-- a block isn't another one that comes before it in the directory
not_before : (image : List (List ℕ)) (i j : ℕ) → directory image ≢ [] → i < j → j < length (directory image)
    → get_or (directory image) i 0 ≢ get_or (directory image) j 0
not_before image i j some less here e =
    let d : IsDistinct eqb (directory image) = distinct image directory_start (directory image) (Chain-directory image some) in
    let f : true ≡ false =
    sym (eq-eqb (get_or (directory image) i 0) (get_or (directory image) j 0) e) ∙ apart_from_distinct eqb (directory image) i j 0 d less here in cc

-- no block comes at two places of the directory
pub directory-apart : (image : List (List ℕ)) (i j : ℕ) → directory image ≢ [] → i < length (directory image) → j < length (directory image) → i ≢ j
    → get_or (directory image) i 0 ≢ get_or (directory image) j 0
directory-apart image i j some i_here j_here other e =
    elim (cases_lt i j) [
      | inl below ↦ not_before image i j some below j_here e
      | inr above ↦ not_before image j i some (omega arith) i_here (sym e)
    ]

-- a block of an image
pub block_at : (image : List (List ℕ)) (block : ℕ) → IsImage image → block < length image → IsBlock (sector_at image block)
block_at image block is inside = All-get_or IsBlock image block [] inside is.1

-- an entry lies in its block
slot_fits : (slot : ℕ) → slot_start slot + 30 ≤ 256
slot_fits slot = omega arith

-- the other blocks stay
pub sector_at-with_entry : (image : List (List ℕ)) (slot : ℕ) (entry : List ℕ) (block : ℕ) → block ≢ slot_block image slot
    → sector_at (with_entry image slot entry) block ≡ sector_at image block
unfolding with_entry
sector_at-with_entry image slot entry block other =
    get_or-set_other image (slot_block image slot) block (written_at (sector_at image (slot_block image slot)) (slot_start slot) entry) [] other

-- the slot's block holds the entry
pub sector_at-slot_block : (image : List (List ℕ)) (slot : ℕ) (entry : List ℕ) → slot_block image slot < length image
    → sector_at (with_entry image slot entry) (slot_block image slot) ≡ written_at (sector_at image (slot_block image slot)) (slot_start slot) entry
unfolding with_entry
sector_at-slot_block image slot entry inside =
    get_or-set_same image (slot_block image slot) (written_at (sector_at image (slot_block image slot)) (slot_start slot) entry) [] inside

-- an image has as many blocks as before
pub length-with_entry : (image : List (List ℕ)) (slot : ℕ) (entry : List ℕ) → length (with_entry image slot entry) ≡ length image
unfolding with_entry
length-with_entry image slot entry =
    length-set image (slot_block image slot) (written_at (sector_at image (slot_block image slot)) (slot_start slot) entry)

-- and stays one
pub IsImage-with_entry : (image : List (List ℕ)) (slot : ℕ) (entry : List ℕ) → IsImage image → slot < length (slots image)
    → length entry ≡ 30 → All (λ byte. byte < 256) entry → IsImage (with_entry image slot entry)
unfolding with_entry
IsImage-with_entry image slot entry is there full bytes =
    let some = directory-of_slot image slot there in
    let b = block_at image (slot_block image slot) is (slot_block-within image slot some there) in
    let fits = slot_fits slot in (
      subst IsSize (sym (length-with_entry image slot entry)) is.0,
      All-set IsBlock image (slot_block image slot) (written_at (sector_at image (slot_block image slot)) (slot_start slot) entry)
          (IsBlock-written_at (sector_at image (slot_block image slot)) entry (slot_start slot) b (omega arith) bytes) is.1,
    )

-- all links stay
pub link_at-with_entry : (image : List (List ℕ)) (slot : ℕ) (entry : List ℕ) → IsImage image → directory image ≢ [] → slot < length (slots image)
    → (block : ℕ) → link_at (with_entry image slot entry) block ≡ link_at image block
link_at-with_entry image slot entry is some there block =
    let inside = slot_block-within image slot some there in
    let b = block_at image (slot_block image slot) is inside in
    let l = b.0 in
    elim (cases_eq block (slot_block image slot)) [
      | inl same ↦
          let here : sector_at (with_entry image slot entry) block ≡ written_at (sector_at image (slot_block image slot)) (slot_start slot) entry =
          ap (sector_at (with_entry image slot entry)) same ∙ sector_at-slot_block image slot entry inside in
          ap (λ (s : List ℕ). (get_or s 0 0, get_or s 1 0)) here
          ∙ ap₂ (λ (x y : ℕ). (x, y)) (get_or-written_before (sector_at image (slot_block image slot)) entry (slot_start slot) 0 (omega arith) (omega arith))
          (get_or-written_before (sector_at image (slot_block image slot)) entry (slot_start slot) 1 (omega arith) (omega arith))
          ∙ ap (link_at image) (sym same)
      | inr other ↦ ap (λ (s : List ℕ). (get_or s 0 0, get_or s 1 0)) (sector_at-with_entry image slot entry block other)
    ]

-- the directory stays
pub directory-with_entry : (image : List (List ℕ)) (slot : ℕ) (entry : List ℕ) → IsImage image → directory image ≢ [] → slot < length (slots image)
    → length entry ≡ 30 → directory (with_entry image slot entry) ≡ directory image
directory-with_entry image slot entry is some there full =
    directory-same image (with_entry image slot entry) some (length-with_entry image slot entry)
    (λ block _. link_at-with_entry image slot entry is some there block)

-- slots at other places stay
other_slot : (image : List (List ℕ)) (slot : ℕ) (entry : List ℕ) (place : ℕ) → IsImage image → directory image ≢ [] → slot < length (slots image)
    → length entry ≡ 30 → place < length (slots image) → place ≢ slot
    → cell (sector_at (with_entry image slot entry) (slot_block image place)) (place % 8) ≡ cell (sector_at image (slot_block image place)) (place % 8)
other_slot image slot entry place is some there full here other =
    let inside = slot_block-within image slot some there in
    let b = block_at image (slot_block image slot) is inside in
    elim (cases_eq (place / 8) (slot / 8)) [
      | inl same ↦
          let e : slot_block image place ≡ slot_block image slot = ap (λ (n : ℕ). get_or (directory image) n 0) same in
          let part : place % 8 ≢ slot % 8 = λ f. other (omega arith) in
          ap (λ (n : ℕ). cell (sector_at (with_entry image slot entry) n) (place % 8)) e
          ∙ ap (λ (s : List ℕ). cell s (place % 8)) (sector_at-slot_block image slot entry inside)
          ∙ other_cell (sector_at image (slot_block image slot)) entry (slot % 8) (place % 8) b.0 full (omega arith) (omega arith) part
          ∙ ap (λ (n : ℕ). cell (sector_at image n) (place % 8)) (sym e)
      | inr apart ↦
          ap (λ (s : List ℕ). cell s (place % 8))
          (sector_at-with_entry image slot entry (slot_block image place)
          (directory-apart image (place / 8) (slot / 8) some (slot_place image place here) (slot_place image slot there) apart))
    ]

-- the slots of the directory's blocks after an entry was written
written_slots : (image : List (List ℕ)) (slot : ℕ) (entry : List ℕ) → IsImage image → directory image ≢ [] → slot < length (slots image)
    → length entry ≡ 30
    → slots_in (with_entry image slot entry) (directory image) ≡ set (slots image) slot (take 2 (get_or (slots image) slot []) ++ entry)
written_slots image slot entry is some there full =
    let after : List (List ℕ) = with_entry image slot entry in
    let new : List ℕ = take 2 (get_or (slots image) slot []) ++ entry in
    let l = length-slots_in image (directory image) in
    let m = length-slots_in after (directory image) in
    let inside = slot_block-within image slot some there in
    let b = block_at image (slot_block image slot) is inside in
    ext_get_or [] (slots_in after (directory image)) (set (slots image) slot new) (m ∙ sym l ∙ sym (length-set (slots image) slot new)) (λ place h.
    let here : place < length (slots image) = omega arith in
    slot_at_place after (directory image) place (slot_place image place here)
    ∙ elim (cases_eq place slot) [
      | inl same ↦
          ap (λ (n : ℕ). cell (sector_at after (slot_block image n)) (n % 8)) same
          ∙ ap (λ (s : List ℕ). cell s (slot % 8)) (sector_at-slot_block image slot entry inside)
          ∙ same_cell (sector_at image (slot_block image slot)) entry (slot % 8) b.0 full (omega arith)
          ∙ ap (λ (c : List ℕ). take 2 c ++ entry) (sym (slot_at_place image (directory image) slot (slot_place image slot there)))
          ∙ sym (get_or-set_same (slots image) slot new [] there)
          ∙ ap (λ (n : ℕ). get_or (set (slots image) slot new) n []) (sym same)
      | inr other ↦
          other_slot image slot entry place is some there full here other
          ∙ sym (slot_at_place image (directory image) place (slot_place image place here))
          ∙ sym (get_or-set_other (slots image) slot place new [] other)
    ])

-- the slots are as before except for the one that has the entry, past its first two bytes
pub slots-with_entry : (image : List (List ℕ)) (slot : ℕ) (entry : List ℕ) → IsImage image → directory image ≢ [] → slot < length (slots image)
    → length entry ≡ 30
    → slots (with_entry image slot entry) ≡ set (slots image) slot (take 2 (get_or (slots image) slot []) ++ entry)
slots-with_entry image slot entry is some there full =
    ap (slots_in (with_entry image slot entry)) (directory-with_entry image slot entry is some there full)
    ∙ written_slots image slot entry is some there full
