-- slots of the directory that are changed in place
use Rattle.std.proofs.Common.{◌≡◌, ◌≢◌, ℕ, ◌+◌, ◌-◌, ◌*◌, ◌%◌, ◌<◌, ◌≤◌, Bool, true, false, cond, List, [], ◌∷◌, ◌++◌, length, map, get_or, take, drop, set, refl, sym, ap, ◌∙◌, subst, inl, inr, arith, append_assoc}
use Rattle.std.specs.Prelude.{All, filter, fold}
use Rattle.std.specs.List.{enumerate_from}
use Rattle.std.proofs.lemmas.Bool.{cases_lt}
use Rattle.std.proofs.lemmas.List.{ext_get_or, get_or-drop, get_or_at, set_at, length-append, length-drop, take-append-drop, take-append-le, take-take, length-take-le}
use Rattle.std.proofs.lemmas.List.Elements.{All-nil, All-cons, All-take, All-drop, All-from_get_or}
use Rattle.d64_image.specs.declared.image.TheConstants.{BLOCK_BYTES}
use Rattle.d64_image.specs.Image.{IsImage, sector_at, with_sector}
use Rattle.d64_files.specs.Clearing.{with_cleared_slot}
use Rattle.d64_files.specs.Directory.{directory, slots}
use Rattle.d64_files.specs.Slot.{cell}
use Rattle.d64_files.specs.Writing.{written_at, with_bytes, slot_block, with_entry}
use Rattle.d64_files.proofs.SlotLists.{slot_at_place}
use Rattle.d64_files.proofs.WrittenBytes.{length-written_at}
use Rattle.d64_effects.proofs.DirectoryEntries.{get_or-written_before, get_or-written_within, get_or-written_past, All-written_at, length-cell, get_or-cell, directory-of_slot, slot_place, slot_block-is_held, slot_block-within, block_at, sector_at-with_entry, IsImage-with_entry, length-with_entry, directory-with_entry, slots-with_entry}
use Rattle.d64_effects.proofs.NewDirectory.{length-slot, other_block}
use Rattle.d64_effects.proofs.Occurrences.{occurs}

-- the slots of an image have 32 bytes each
pub slots_sized : (image : List (List ℕ)) → IsImage image → directory image ≢ [] → All (λ cell. length cell ≡ 32) (slots image)
slots_sized image is some = All-from_get_or (λ cell. length cell ≡ 32) (slots image) [] (λ slot there. length-slot image slot is some there)

-- an image with other bytes in slots of its directory, whose blocks and links stay
pub record SlotsChanged (image other cells : List (List ℕ)) : Type 0 where
  pub is_image : IsImage other
  pub long : length other ≡ length image
  pub blocks : directory other ≡ directory image
  pub entries : slots other ≡ cells
  pub kept : (block : ℕ) → occurs block (directory image) ≡ 0 → sector_at other block ≡ sector_at image block

-- what the entry of a slot is after a part was written over the slot's bytes, from a place on
abbrev entry_with : List ℕ → ℕ → List ℕ → List ℕ
entry_with old place part = drop 2 (written_at old place part)

length-entry_with : (old part : List ℕ) (place : ℕ) → length old ≡ 32 → place + length part ≤ 32 → length (entry_with old place part) ≡ 30
length-entry_with old part place long fits =
    let e = length-written_at old part place (omega arith) in
    length-drop 2 (written_at old place part) ∙ omega arith

-- a part that is written over a slot's bytes, byte by byte
byte_in_slot : (bytes part : List ℕ) (i place m : ℕ) → length bytes ≡ BLOCK_BYTES → i < 8 → place + length part ≤ 32 → m < 32
    → get_or (written_at bytes (32 * i + place) part) (32 * i + m) 0 ≡ get_or (written_at (cell bytes i) place part) m 0
byte_in_slot bytes part i place m long small fits within =
    let l = length-cell bytes i long small in
    elim (cases_lt m place) [
      | inl below ↦
          get_or-written_before bytes part (32 * i + place) (32 * i + m) (omega arith) (omega arith)
          ∙ sym (get_or-written_before (cell bytes i) part place m (omega arith) below ∙ get_or-cell bytes i m within)
      | inr above ↦ elim (cases_lt m (place + length part)) [
        | inl inside ↦
            let e : 32 * i + m ≡ 32 * i + place + (m - place) = omega arith in
            let f : m ≡ place + (m - place) = omega arith in
            ap (λ (k : ℕ). get_or (written_at bytes (32 * i + place) part) k 0) e
            ∙ get_or-written_within bytes part (32 * i + place) (m - place) (omega arith) (omega arith)
            ∙ sym (ap (λ (k : ℕ). get_or (written_at (cell bytes i) place part) k 0) f
            ∙ get_or-written_within (cell bytes i) part place (m - place) (omega arith) (omega arith))
        | inr past ↦
            get_or-written_past bytes part (32 * i + place) (32 * i + m) (omega arith) (omega arith)
            ∙ sym (get_or-written_past (cell bytes i) part place m (omega arith) past ∙ get_or-cell bytes i m within)
      ]
    ]

-- it leaves the block with the slot's entry written anew
part_is_entry : (bytes part : List ℕ) (i place : ℕ) → length bytes ≡ BLOCK_BYTES → i < 8 → 2 ≤ place → place + length part ≤ 32
    → written_at bytes (32 * i + place) part ≡ written_at bytes (32 * i + 2) (entry_with (cell bytes i) place part)
part_is_entry bytes part i place long small past fits =
    let l = length-cell bytes i long small in
    let entry : List ℕ = entry_with (cell bytes i) place part in
    let full : length entry ≡ 30 = length-entry_with (cell bytes i) part place l fits in
    let m = length-written_at bytes part (32 * i + place) (omega arith) in
    let n = length-written_at bytes entry (32 * i + 2) (omega arith) in
    ext_get_or 0 (written_at bytes (32 * i + place) part) (written_at bytes (32 * i + 2) entry) (m ∙ sym n) (λ k h.
    elim (cases_lt k (32 * i + 2)) [
      | inl below ↦
          get_or-written_before bytes part (32 * i + place) k (omega arith) (omega arith)
          ∙ sym (get_or-written_before bytes entry (32 * i + 2) k (omega arith) below)
      | inr above ↦ elim (cases_lt k (32 * i + 32)) [
        | inl inside ↦
            let e : k ≡ 32 * i + (k - 32 * i) = omega arith in
            let f : k ≡ 32 * i + 2 + (k - 32 * i - 2) = omega arith in
            let g : 2 + (k - 32 * i - 2) ≡ k - 32 * i = omega arith in
            ap (λ (j : ℕ). get_or (written_at bytes (32 * i + place) part) j 0) e
            ∙ byte_in_slot bytes part i place (k - 32 * i) long small fits (omega arith)
            ∙ sym (ap (λ (j : ℕ). get_or (written_at bytes (32 * i + 2) entry) j 0) f
            ∙ get_or-written_within bytes entry (32 * i + 2) (k - 32 * i - 2) (omega arith) (omega arith)
            ∙ get_or-drop 2 (written_at (cell bytes i) place part) (k - 32 * i - 2) 0
            ∙ ap (λ (j : ℕ). get_or (written_at (cell bytes i) place part) j 0) g)
        | inr behind ↦
            get_or-written_past bytes part (32 * i + place) k (omega arith) (omega arith)
            ∙ sym (get_or-written_past bytes entry (32 * i + 2) k (omega arith) (omega arith))
      ]
    ])

-- the first two bytes of a slot stay
whole_slot : (old part : List ℕ) (place : ℕ) → length old ≡ 32 → 2 ≤ place → place + length part ≤ 32
    → take 2 old ++ entry_with old place part ≡ written_at old place part
unfolding written_at
whole_slot old part place long past fits =
    let l : length (take place old) ≡ place = length-take-le place old (omega arith) in
    let same : take 2 (take place old ++ (part ++ drop (place + length part) old)) ≡ take 2 old =
    take-append-le 2 (take place old) (part ++ drop (place + length part) old) (omega arith) ∙ take-take 2 place old past in
    ap (λ (link : List ℕ). link ++ drop 2 (take place old ++ (part ++ drop (place + length part) old))) (sym same)
    ∙ take-append-drop 2 (take place old ++ (part ++ drop (place + length part) old))

-- so the image has that slot changed, and nothing else
pub slot_changed : (image : List (List ℕ)) (slot place start : ℕ) (part : List ℕ) → IsImage image → slot < length (slots image)
    → start ≡ 32 * (slot % 8) + place → 2 ≤ place → place + length part ≤ 32 → All (λ byte. byte < 256) part
    → SlotsChanged image (with_bytes image (slot_block image slot) start part) (set (slots image) slot (written_at (get_or (slots image) slot []) place part))
unfolding with_entry
slot_changed image slot place start part is there at past fits small =
    let P : ℕ → Type 0 = λ byte. byte < 256 in
    let some = directory-of_slot image slot there in
    let b = block_at image (slot_block image slot) is (slot_block-within image slot some there) in
    let bytes : List ℕ = sector_at image (slot_block image slot) in
    let old : List ℕ = cell bytes (slot % 8) in
    let entry : List ℕ = entry_with old place part in
    let inside : slot % 8 < 8 = omega arith in
    let l : length old ≡ 32 = length-cell bytes (slot % 8) b.0 inside in
    let full : length entry ≡ 30 = length-entry_with old part place l fits in
    let here : get_or (slots image) slot [] ≡ old = slot_at_place image (directory image) slot (slot_place image slot there) in
    let written : with_entry image slot entry ≡ with_bytes image (slot_block image slot) start part =
    ap (with_sector image (slot_block image slot))
    (sym (ap (λ (n : ℕ). written_at bytes n part) at ∙ part_is_entry bytes part (slot % 8) place b.0 inside past fits)) in
    let bytes_are : All P entry =
    All-drop P 2 (written_at old place part) (All-written_at P old part place (All-take P 32 (drop (32 * (slot % 8)) bytes) (All-drop P (32 * (slot % 8)) bytes b.1)) small) in
    subst (λ (other : List (List ℕ)). SlotsChanged image other (set (slots image) slot (written_at (get_or (slots image) slot []) place part))) written
    record {
      is_image = IsImage-with_entry image slot entry is there full bytes_are;
      long = length-with_entry image slot entry;
      blocks = directory-with_entry image slot entry is some there full;
      entries =
          slots-with_entry image slot entry is some there full
          ∙ ap (set (slots image) slot)
          (ap (λ (c : List ℕ). take 2 c ++ entry) here ∙ whole_slot old part place l past fits ∙ ap (λ (c : List ℕ). written_at c place part) (sym here));
      kept = λ block absent.
          sector_at-with_entry image slot entry block
          (other_block block (slot_block image slot) (directory image) absent (slot_block-is_held image slot there));
    }

-- one change after another
pub changed_again : (image one other cells others : List (List ℕ)) → SlotsChanged image one cells → SlotsChanged one other others → SlotsChanged image other others
changed_again image one other cells others first second = record {
  is_image = second.is_image;
  long = second.long ∙ first.long;
  blocks = second.blocks ∙ first.blocks;
  entries = second.entries;
  kept = λ block absent. second.kept block (ap (occurs block) first.blocks ∙ absent) ∙ first.kept block absent;
}

-- a slot whose type byte is 0
abbrev pub cleared : List ℕ → List ℕ
cleared old = written_at old 2 (0 ∷ [])

-- the same if the slot passes a test
abbrev pub cleared_if : (List ℕ → Bool) → List ℕ → List ℕ
cleared_if test old = cond (test old) (cleared old) old

-- a slot becomes unused
pub one_cleared : (image : List (List ℕ)) (slot : ℕ) → IsImage image → slot < length (slots image)
    → SlotsChanged image (with_cleared_slot image slot) (set (slots image) slot (cleared (get_or (slots image) slot [])))
unfolding with_cleared_slot
one_cleared image slot is there =
    slot_changed image slot 2 (32 * (slot % 8) + 2) (0 ∷ []) is there refl (omega arith) (omega arith)
    (All-cons (λ byte. byte < 256) 0 [] (omega arith) (All-nil (λ byte. byte < 256)))

-- the same if the slots before it are known
next_cleared : (image done cells : List (List ℕ)) (old : List ℕ) (n : ℕ) → IsImage image → slots image ≡ done ++ old ∷ cells → length done ≡ n
    → SlotsChanged image (with_cleared_slot image n) (done ++ cleared old ∷ cells)
next_cleared image done cells old n is e count =
    let whole = ap length e ∙ length-append done (old ∷ cells) in
    let there : n < length (slots image) = omega arith in
    subst (SlotsChanged image (with_cleared_slot image n))
    (ap (λ (rows : List (List ℕ)). set rows n (cleared (get_or rows n []))) e
    ∙ ap (λ (row : List ℕ). set (done ++ old ∷ cells) n (cleared row)) (get_or_at done old cells [] n count)
    ∙ set_at done old cells (cleared old) n count)
    (one_cleared image n is there)

-- the numbers of the slots that pass a test, the first of which has a number
abbrev pub numbers_from : (List ℕ → Bool) → ℕ → List (List ℕ) → List ℕ
numbers_from test n cells = map (λ slot. slot.0) (filter (λ slot. test slot.1) (enumerate_from n cells))

-- what the slots behind those that are done become
abbrev Clears : (List ℕ → Bool) → List (List ℕ) → ℕ → Type 0
Clears test cells n =
    (image done : List (List ℕ)) → IsImage image → slots image ≡ done ++ cells → length done ≡ n
    → SlotsChanged image (fold with_cleared_slot image (numbers_from test n cells)) (done ++ map (cleared_if test) cells)

next_clears : (test : List ℕ → Bool) (old : List ℕ) (cells : List (List ℕ)) (n : ℕ) → Clears test cells (n + 1) → (passes : Bool)
    → (image done : List (List ℕ)) → IsImage image → slots image ≡ done ++ old ∷ cells → length done ≡ n
    → SlotsChanged image
    (fold with_cleared_slot image
    (map (λ slot. slot.0) (cond passes ((n, old) ∷ filter (λ slot. test slot.1) (enumerate_from (n + 1) cells)) (filter (λ slot. test slot.1) (enumerate_from (n + 1) cells)))))
    (done ++ cond passes (cleared old) old ∷ map (cleared_if test) cells)
next_clears test old cells n later true image done is e count =
    let first = next_cleared image done cells old n is e count in
    let more : length (done ++ cleared old ∷ []) ≡ n + 1 = length-append done (cleared old ∷ []) ∙ omega arith in
    changed_again image (with_cleared_slot image n)
    (fold with_cleared_slot (with_cleared_slot image n) (numbers_from test (n + 1) cells))
    (done ++ cleared old ∷ cells) (done ++ cleared old ∷ map (cleared_if test) cells) first
    (subst
    (SlotsChanged (with_cleared_slot image n) (fold with_cleared_slot (with_cleared_slot image n) (numbers_from test (n + 1) cells)))
    (append_assoc done (cleared old ∷ []) (map (cleared_if test) cells))
    (later (with_cleared_slot image n) (done ++ cleared old ∷ []) first.is_image
    (first.entries ∙ sym (append_assoc done (cleared old ∷ []) cells)) more))
next_clears test old cells n later false image done is e count =
    let more : length (done ++ old ∷ []) ≡ n + 1 = length-append done (old ∷ []) ∙ omega arith in
    subst (SlotsChanged image (fold with_cleared_slot image (numbers_from test (n + 1) cells)))
    (append_assoc done (old ∷ []) (map (cleared_if test) cells))
    (later image (done ++ old ∷ []) is (e ∙ sym (append_assoc done (old ∷ []) cells)) more)

all_clears : (test : List ℕ → Bool) (cells : List (List ℕ)) (n : ℕ) → Clears test cells n
all_clears test [] n image done is e count = record { is_image = is; long = refl; blocks = refl; entries = e; kept = λ block absent. refl }
all_clears test (old ∷ cells) n image done is e count =
    next_clears test old cells n (all_clears test cells (n + 1)) (test old) image done is e count

-- slots that pass a test become unused
pub slots_cleared : (test : List ℕ → Bool) (image : List (List ℕ)) → IsImage image
    → SlotsChanged image (fold with_cleared_slot image (numbers_from test 0 (slots image))) (map (cleared_if test) (slots image))
slots_cleared test image is = all_clears test (slots image) 0 image [] is refl refl
