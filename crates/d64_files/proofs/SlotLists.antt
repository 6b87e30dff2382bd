-- The lists of slots: those of a block, those of blocks, and those that are left of a walk.
use Rattle.std.proofs.Common.{◌≡◌, ℕ, ◌+◌, ◌-◌, ◌*◌, ◌/◌, ◌%◌, ◌<◌, ◌≤◌, ◌||◌, Bool, true, false, cond, List, [], ◌∷◌, length, get_or, take, drop, Option, Some, refl, sym, ap, ap₂, ◌∙◌, subst, inl, inr, arith, length-append}
use Rattle.std.specs.Prelude.{All, find, position, option_map}
use Rattle.std.specs.List.{list_any, position_from}
use Rattle.std.proofs.Math.Nat.{div-add-mod}
use Rattle.std.proofs.Math.ListN.{drop_of_length-le}
use Rattle.std.proofs.lemmas.Bool.{cases_lt}
use Rattle.std.proofs.lemmas.List.{drop_more, length-map, get_or-map, length-take-le, get_or_past}
use Rattle.std.proofs.lemmas.List.Concat.{get_or-flat_map, flat_map-cons}
use Rattle.std.proofs.lemmas.List.Elements.{All-get_or, All-from_get_or}
use Rattle.std.proofs.lemmas.List.FromFn.{length-map-range_with_len, get_or-map-range_with_len, length-enumerate_from, get_or-enumerate_from}
use Rattle.std.proofs.lemmas.Grind.{get_or_default_zero}
use Rattle.std.proofs.lemmas.Iterator.Adapters.{position_from-zero}
use Rattle.d64_image.specs.Image.{sector_at}
use Rattle.d64_files.specs.Chain.{LieIn}
use Rattle.d64_files.specs.Slot.{EntryView, cell, cells, HasKind}
use Rattle.d64_files.specs.Directory.{directory, slots, slots_in, numbered_slots, entry_of, entries}
use Rattle.d64_files.specs.Writing.{dir_last, slot_block}
use Rattle.d64_files.proofs.Chains.{chain_from-lies}
use Rattle.d64_files.proofs.Owners.{entries_from}

-- a block has eight slots
pub length-cells : (bytes : List ℕ) → length (cells bytes) ≡ 8
unfolding cells
length-cells bytes = length-map-range_with_len (cell bytes) 0 8

-- a slot of a block
pub get_or-cells : (bytes : List ℕ) (i : ℕ) (d : List ℕ) → i < 8 → get_or (cells bytes) i d ≡ cell bytes i
unfolding cells
get_or-cells bytes i d within = get_or-map-range_with_len (cell bytes) 0 8 i i d within (omega arith)

-- the slots of a block and of those after it
slots_in-cons : (image : List (List ℕ)) (block : ℕ) (blocks : List ℕ) → length (slots_in image (block ∷ blocks)) ≡ length (cells (sector_at image block)) + length (slots_in image blocks)
slots_in-cons image block blocks =
    ap length (flat_map-cons (λ (b : ℕ). cells (sector_at image b)) block blocks)
    ∙ length-append (cells (sector_at image block)) (slots_in image blocks)

-- blocks have eight slots each
pub length-slots_in : (image : List (List ℕ)) (blocks : List ℕ) → length (slots_in image blocks) ≡ 8 * length blocks
length-slots_in image [] = refl
length-slots_in image (block ∷ blocks) =
    omega (arith, slots_in-cons image block blocks, length-cells (sector_at image block), length-slots_in image blocks)

-- a slot of one of the blocks
pub get_or-slots_in : (image : List (List ℕ)) (blocks : List ℕ) (q r : ℕ) → q < length blocks → r < 8
    → get_or (slots_in image blocks) (8 * q + r) [] ≡ cell (sector_at image (get_or blocks q 0)) r
get_or-slots_in image blocks q r within small =
    let count : length (slots_in image (take q blocks)) ≡ 8 * q =
    let taken : length (take q blocks) ≡ q = length-take-le q blocks (omega arith) in
    length-slots_in image (take q blocks) ∙ ap (λ (n : ℕ). 8 * n) taken in
    let bounded : r < length (cells (sector_at image (get_or blocks q 0))) = omega (arith, length-cells (sector_at image (get_or blocks q 0))) in
    ap (λ (n : ℕ). get_or (slots_in image blocks) (n + r) []) (sym count)
    ∙ get_or-flat_map (λ (b : ℕ). cells (sector_at image b)) blocks q r 0 [] within bounded
    ∙ get_or-cells (sector_at image (get_or blocks q 0)) r [] small

-- the slot of a place
pub slot_at_place : (image : List (List ℕ)) (blocks : List ℕ) (place : ℕ) → place / 8 < length blocks
    → get_or (slots_in image blocks) place [] ≡ cell (sector_at image (get_or blocks (place / 8) 0)) (place % 8)
slot_at_place image blocks place within =
    ap (λ (n : ℕ). get_or (slots_in image blocks) n []) (sym (div-add-mod place 8))
    ∙ get_or-slots_in image blocks (place / 8) (place % 8) within (omega arith)

-- a place among the slots of blocks
within_slots : (image : List (List ℕ)) (blocks : List ℕ) (place : ℕ) → place / 8 < length blocks → place < length (slots_in image blocks)
within_slots image blocks place within = omega (arith, length-slots_in image blocks)

-- what is left of a walk begins with the entry of its place
pub next_entry : (image : List (List ℕ)) (blocks : List ℕ) (place : ℕ) → place / 8 < length blocks
    → drop place (entries image (slots_in image blocks))
    ≡ entry_of image (place, cell (sector_at image (get_or blocks (place / 8) 0)) (place % 8)) ∷ drop (place + 1) (entries image (slots_in image blocks))
next_entry image blocks place within =
    let cells = slots_in image blocks in
    let inside = within_slots image blocks place within in
    let long : place < length (numbered_slots cells) = omega (arith, length-enumerate_from 0 cells) in
    let all : place < length (entries image cells) = omega (arith, length-map (numbered_slots cells) (entry_of image)) in
    drop_more (entries image cells) place (entry_of image (0, [])) all
    ∙ ap (λ (e : EntryView). e ∷ drop (place + 1) (entries image cells))
    (get_or-map (entry_of image) (numbered_slots cells) place (0, []) (entry_of image (0, [])) long
    ∙ ap (entry_of image) (get_or-enumerate_from 0 cells place (0, []) inside
    ∙ ap₂ (λ (n : ℕ) (s : List ℕ). (n, s)) (let e : 0 + place ≡ place = omega arith in e) (slot_at_place image blocks place within)))

-- slots have an entry each
pub length-entries : (image cells : List (List ℕ)) → length (entries image cells) ≡ length cells
length-entries image cells = length-map (numbered_slots cells) (entry_of image) ∙ length-enumerate_from 0 cells

-- past the last block nothing is left of a walk
pub no_entry : (image : List (List ℕ)) (blocks : List ℕ) (place : ℕ) → length blocks ≤ place / 8 → drop place (entries image (slots_in image blocks)) ≡ []
no_entry image blocks place past =
    drop_of_length-le (entries image (slots_in image blocks)) (omega (arith, length-entries image (slots_in image blocks), length-slots_in image blocks))

-- the bytes of the slot of a place, step by step
pub bytes_at_place : (image : List (List ℕ)) (blocks items : List ℕ) (place block : ℕ) (sector bytes : List ℕ) → items ≡ blocks → place / 8 < length items
    → block ≡ get_or items (place / 8) block → sector ≡ sector_at image block → bytes ≡ cell sector (place % 8)
    → bytes ≡ cell (sector_at image (get_or blocks (place / 8) 0)) (place % 8)
bytes_at_place image blocks items place block sector bytes same within here content part =
    let block_is : block ≡ get_or blocks (place / 8) 0 =
    here ∙ get_or_default_zero items (place / 8) block within ∙ ap (λ (bs : List ℕ). get_or bs (place / 8) 0) same in
    part ∙ ap (λ (s : List ℕ). cell s (place % 8)) (content ∙ ap (sector_at image) block_is)

-- if each slot of a block has a kind, all have
pub block_kinds : (bytes : List ℕ) → ((k : ℕ) → k < 8 → HasKind (cell bytes k)) → All HasKind (cells bytes)
block_kinds bytes each =
    All-from_get_or HasKind (cells bytes) [] (λ k within.
    let small : k < 8 = omega (arith, length-cells bytes) in subst HasKind (sym (get_or-cells bytes k [] small)) (each k small))

-- if all slots of a block have a kind, so has each
pub block_kind : (bytes : List ℕ) (k : ℕ) → k < 8 → All HasKind (cells bytes) → HasKind (cell bytes k)
block_kind bytes k small all =
    subst HasKind (get_or-cells bytes k [] small) (All-get_or HasKind (cells bytes) k [] (omega (arith, length-cells bytes)) all)

-- if the slots of each block have kinds, all slots have
pub all_kinds : (image : List (List ℕ)) (blocks : List ℕ)
    → ((k : ℕ) → k < length blocks → All HasKind (cells (sector_at image (get_or blocks k 0)))) → All HasKind (slots_in image blocks)
all_kinds image blocks each =
    All-from_get_or HasKind (slots_in image blocks) [] (λ place inside.
    let within : place / 8 < length blocks = omega (arith, length-slots_in image blocks) in
    subst HasKind (sym (slot_at_place image blocks place within))
    (block_kind (sector_at image (get_or blocks (place / 8) 0)) (place % 8) (omega arith) (each (place / 8) within)))

-- if all slots have kinds, so have those of each block
pub kinds_of_block : (image : List (List ℕ)) (blocks : List ℕ) (q : ℕ) → q < length blocks → All HasKind (slots_in image blocks)
    → All HasKind (cells (sector_at image (get_or blocks q 0)))
kinds_of_block image blocks q within all =
    block_kinds (sector_at image (get_or blocks q 0)) (λ r small.
    subst HasKind (get_or-slots_in image blocks q r within small)
    (All-get_or HasKind (slots_in image blocks) (8 * q + r) [] (omega (arith, length-slots_in image blocks)) all))

-- the first entry that passes has the number of the first slot that passes
found_from : (test : List ℕ → Bool) (image : List (List ℕ)) (n : ℕ) (cells : List (List ℕ))
    → option_map (λ (e : EntryView). e.slot) (find (λ (e : EntryView). test e.bytes) (entries_from image n cells)) ≡ position_from test n cells
found_from test image n [] = refl
found_from test image n (c ∷ cells) = by_test (test c) (found_from test image (n + 1) cells)
  where
    rest : Option EntryView
    rest = find (λ (e : EntryView). test e.bytes) (entries_from image (n + 1) cells)

    by_test : (b : Bool) → option_map (λ (e : EntryView). e.slot) rest ≡ position_from test (n + 1) cells
        → option_map (λ (e : EntryView). e.slot) (cond b (Some (entry_of image (n, c))) rest) ≡ cond b (Some n) (position_from test (n + 1) cells)
    by_test true same = refl
    by_test false same = same

-- so from 0 on
pub found-entry : (test : List ℕ → Bool) (image cells : List (List ℕ))
    → option_map (λ (e : EntryView). e.slot) (find (λ (e : EntryView). test e.bytes) (entries image cells)) ≡ position test cells
found-entry test image cells = found_from test image 0 cells ∙ sym (position_from-zero test cells)

-- an entry passes if its slot does
pub any-entry : (test : List ℕ → Bool) (image : List (List ℕ)) (n : ℕ) (cells : List (List ℕ))
    → list_any (λ (e : EntryView). test e.bytes) (entries_from image n cells) ≡ list_any test cells
any-entry test image n [] = refl
any-entry test image n (c ∷ cells) = ap (λ (b : Bool). test c || b) (any-entry test image (n + 1) cells)

-- the image has the blocks of its directory
pub directory-lies : (image : List (List ℕ)) → LieIn image (directory image)
directory-lies image = chain_from-lies image 18 1

pub slot_block-within : (image : List (List ℕ)) (slot : ℕ) → slot < length (slots image) → slot_block image slot < length image
slot_block-within image slot h = directory-lies image (slot / 8) 0 (let count = length-slots_in image (directory image) in omega arith)

pub dir_last-within : (image : List (List ℕ)) → 0 < length image → dir_last image < length image
dir_last-within image some = elim (cases_lt (length (directory image) - 1) (length (directory image))) [
  | inl inside ↦ directory-lies image (length (directory image) - 1) 0 inside
  | inr past ↦ subst (λ (block : ℕ). block < length image) (sym (get_or_past (directory image) (length (directory image) - 1) 0 past)) some
]
