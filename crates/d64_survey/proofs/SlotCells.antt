-- The slot of a number, along blocks.
use Rattle.std.proofs.Common.{◌≡◌, ℕ, ◌/◌, ◌%◌, ◌<◌, ◌≤◌, true, false, ltb, List, [], length, get_or, Option, Some, None, sym, ap, ◌∙◌, subst, arith}
use Rattle.std.specs.Prelude.{option_map}
use Rattle.std.specs.List.{slice_get}
use Rattle.std.proofs.lemmas.Bool.Decides.{nat_tests}
use Rattle.std.proofs.lemmas.Grind.{get_or_default_zero}
use Rattle.std.proofs.lemmas.Option.{slice_get_past, slice_get-get_or}
use Rattle.d64_image.specs.Image.{sector_at}
use Rattle.d64_files.specs.Slot.{EntryView, cell}
use Rattle.d64_files.specs.Directory.{slots_in, entry_of}
use Rattle.d64_files.proofs.SlotLists.{length-slots_in, slot_at_place}
use Rattle.d64_survey.specs.Owners.{directory_way}
use Rattle.d64_survey.specs.Inspection.{slot_cell}

-- it is in the block of its eighth
cell_there : (image : List (List ℕ)) (blocks : List ℕ) (slot block d : ℕ) → slot / 8 < length blocks → block ≡ get_or blocks (slot / 8) d
    → slice_get (slots_in image blocks) slot ≡ Some (cell (sector_at image block) (slot % 8))
cell_there image blocks slot block d within found =
    let long = length-slots_in image blocks in
    let inside : slot < length (slots_in image blocks) = omega arith in
    let same : get_or blocks (slot / 8) 0 ≡ block = sym (found ∙ get_or_default_zero blocks (slot / 8) d within) in
    slice_get-get_or (slots_in image blocks) slot [] inside
    ∙ ap (λ (bytes : List ℕ). Some bytes) (slot_at_place image blocks slot within ∙ ap (λ (b : ℕ). cell (sector_at image b) (slot % 8)) same)

-- and None if there is no such block
no_cell : (image : List (List ℕ)) (blocks : List ℕ) (slot : ℕ) → length blocks ≤ slot / 8 → slice_get (slots_in image blocks) slot ≡ None
no_cell image blocks slot past =
    let long = length-slots_in image blocks in
    let beyond : length (slots_in image blocks) ≤ slot = omega arith in
    slice_get_past (slots_in image blocks) slot beyond

is_below : (a b : ℕ) → true ≡ ltb a b → a < b
is_below a b e = let t : ltb a b ≡ true = sym e in grind (arith, nat_tests)

-- the entry of a slot of the directory's way
pub entry_there : (image other : List (List ℕ)) (items : List ℕ) (n slot block d : ℕ) (entry : EntryView) → image ≡ other → items ≡ (directory_way image).0 → n ≡ slot
    → true ≡ ltb (n / 8) (length items) → block ≡ get_or items (n / 8) d → entry ≡ entry_of image (slot, cell (sector_at image block) (slot % 8))
    → Some entry ≡ option_map (λ bytes. entry_of other (slot, bytes)) (slot_cell other slot)
entry_there image other items n slot block d entry same_image same same_slot within found is =
    let inside = subst (λ (k : ℕ). k / 8 < length items) same_slot (is_below (n / 8) (length items) within) in
    let there = cell_there image items slot block d inside (found ∙ ap (λ (k : ℕ). get_or items (k / 8) d) same_slot) in
    ap (λ (e : EntryView). Some e) is
    ∙ sym (ap (λ (c : Option (List ℕ)). option_map (λ bytes. entry_of image (slot, bytes)) c) (sym (ap (λ (bs : List ℕ). slice_get (slots_in image bs) slot) same) ∙ there))
    ∙ ap (λ (i : List (List ℕ)). option_map (λ bytes. entry_of i (slot, bytes)) (slot_cell i slot)) same_image

is_past : (a b : ℕ) → false ≡ ltb a b → b ≤ a
is_past a b e = let t : ltb a b ≡ false = sym e in grind (arith, nat_tests)

-- if the way has no such slot, there is no such slot
pub no_entry_there : (image other : List (List ℕ)) (items : List ℕ) (n slot : ℕ) → image ≡ other → items ≡ (directory_way image).0 → n ≡ slot
    → false ≡ ltb (n / 8) (length items) → None ≡ option_map (λ bytes. entry_of other (slot, bytes)) (slot_cell other slot)
no_entry_there image other items n slot same_image same same_slot past =
    let beyond = subst (λ (k : ℕ). length items ≤ k / 8) same_slot (is_past (n / 8) (length items) past) in
    sym (ap (λ (c : Option (List ℕ)). option_map (λ bytes. entry_of image (slot, bytes)) c) (sym (ap (λ (bs : List ℕ). slice_get (slots_in image bs) slot) same) ∙ no_cell image items slot beyond))
    ∙ ap (λ (i : List (List ℕ)). option_map (λ bytes. entry_of i (slot, bytes)) (slot_cell i slot)) same_image
