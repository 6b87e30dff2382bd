-- What changes from a dump to itself, and what holds of images between which nothing changes.
use Rattle.std.proofs.Common.{◌≡◌, ◌≢◌, ℕ, ◌<◌, Bool, true, false, not, if◌then◌else◌, List, [], ◌∷◌, ◌++◌, length, Option, Some, None, nat_eq, nat_lt, refl, sym, ap, ap₂, ◌∙◌, inl, inr, arith}
use Rattle.std.specs.Prelude.{◌&&◌, ◌||◌, is_some}
use Rattle.std.specs.List.{All, filter, flat_map, range_with_len}
use Rattle.std.specs.Cmp.Lexicographic.{pointwise, bytes_decides}
use Rattle.std.proofs.lemmas.Bool.{eq-eqb}
use Rattle.std.proofs.lemmas.List.Elements.{All-get_or}
use Rattle.json.specs.Json.{Json}
use Rattle.d64_image.specs.Image.{IsBlock, IsSize, sector_at, differences}
use Rattle.d64_image.proofs.Differences.{differences-to, equal_images}
use Rattle.d64_survey.specs.Dump.{DumpView, IsDump, is_read_error}
use Rattle.d64_survey.specs.ReadErrors.{code_of}
use Rattle.d64_inventory.specs.Rows.{FileRowView, row_at}
use Rattle.out_json_csv.specs.Values.{line_of}
use Rattle.cmd_diff.specs.Changes.{DumpChange, DiskChanged, FileChanged, BlocksChanged, CodesChanged, are_alike, entry_object, disk_object, disk_change, slot_change, slot_changes, slot_count, differing_blocks, has_other_code, other_codes, changed_codes, where_any, changes}

-- bytes are themselves
pub same_bytes : (bytes : List ℕ) → pointwise nat_eq bytes bytes ≡ true
same_bytes bytes = (bytes_decides bytes bytes).1 refl

-- a value is printed as itself
alike_itself : (value : Json) → are_alike value value ≡ true
alike_itself value = same_bytes (line_of value)

-- a slot does not change to itself
no_slot_change : (row : Option FileRowView) → slot_change row row ≡ []
no_slot_change None = refl
no_slot_change (Some row) = ap (λ (same : Bool). if same then [] else FileChanged row row ∷ []) (alike_itself (entry_object row))

-- nor are those of slots
none_of_slots : (dump : DumpView) (slots : List ℕ) → flat_map (λ slot. slot_change (row_at dump slot) (row_at dump slot)) slots ≡ []
none_of_slots dump [] = refl
none_of_slots dump (slot ∷ slots) = ap₂ (λ (a b : List DumpChange). a ++ b) (no_slot_change (row_at dump slot)) (none_of_slots dump slots)

no_slot_changes : (dump : DumpView) (count : ℕ) → slot_changes dump dump count ≡ []
unfolding slot_changes
no_slot_changes dump count = none_of_slots dump (range_with_len 0 count)

-- a test that no element passes keeps no element
keeps_none : (test : ℕ → Bool) (xs : List ℕ) → ((x : ℕ) → test x ≡ false) → filter test xs ≡ []
keeps_none test [] never = refl
keeps_none test (x ∷ xs) never = ap (λ (kept : Bool). if kept then x ∷ filter test xs else filter test xs) (never x) ∙ keeps_none test xs never

-- an image differs from itself nowhere
no_differences : (image : List (List ℕ)) → differences image image ≡ []
no_differences image = keeps_none _ (range_with_len 0 (length image)) (λ block. ap not (same_bytes (sector_at image block)))

either_way : (b : Bool) (xs : List ℕ) → xs ≡ [] → (if b then xs else xs) ≡ []
either_way true xs none = none
either_way false xs none = none

no_changed_blocks : (image : List (List ℕ)) → differing_blocks image image ≡ []
no_changed_blocks image = either_way (nat_lt (length image) (length image)) (differences image image) (no_differences image)

-- no code is another one than itself
no_other_code : (codes : Option (List ℕ)) (block : ℕ) → has_other_code codes codes block ≡ false
no_other_code codes block =
    ap (λ (same : Bool). not same && (is_read_error (code_of codes block) || is_read_error (code_of codes block))) (eq-eqb (code_of codes block) (code_of codes block) refl)

no_other_codes : (dump : DumpView) → other_codes dump dump ≡ []
unfolding other_codes
no_other_codes dump = keeps_none (has_other_code dump.codes dump.codes) (range_with_len 0 _) (no_other_code dump.codes)

where_so : (b : Bool) (xs : List ℕ) → xs ≡ [] → (if b then xs else []) ≡ []
where_so true xs none = none
where_so false xs none = refl

no_changed_codes : (dump : DumpView) → changed_codes dump dump ≡ []
unfolding changed_codes
no_changed_codes dump = where_so (is_some dump.codes && is_some dump.codes) (other_codes dump dump) (no_other_codes dump)

-- nothing changes from a dump to itself
pub no_changes : (dump : DumpView) → changes dump dump ≡ []
unfolding changes
no_changes dump =
    let disk : disk_change dump dump ≡ [] = ap (λ (same : Bool). if same then [] else DiskChanged dump dump ∷ []) (alike_itself (disk_object dump)) in
    let blocks : where_any BlocksChanged (differing_blocks dump.image dump.image) ≡ [] = ap (where_any BlocksChanged) (no_changed_blocks dump.image) in
    let read : where_any CodesChanged (changed_codes dump dump) ≡ [] = ap (where_any CodesChanged) (no_changed_codes dump) in
    ap₂ (λ (a b : List DumpChange). a ++ b) disk
    (ap₂ (λ (a b : List DumpChange). a ++ b) (no_slot_changes dump (slot_count dump dump)) (ap₂ (λ (a b : List DumpChange). a ++ b) blocks read))

-- parts of an empty list are empty
no_first : {X : Type 0} (xs ys : List X) → xs ++ ys ≡ [] → xs ≡ []
no_first [] ys none = refl
no_first (x ∷ xs) ys none = absurd (cc)

no_second : {X : Type 0} (xs ys : List X) → xs ++ ys ≡ [] → ys ≡ []
no_second [] ys none = none
no_second (x ∷ xs) ys none = absurd (cc)

no_blocks : (blocks : List ℕ) → where_any BlocksChanged blocks ≡ [] → blocks ≡ []
no_blocks [] none = refl
no_blocks (block ∷ blocks) none = absurd (cc)

-- if no change is listed, no block is
no_block_listed : (old new : DumpView) → changes old new ≡ [] → differing_blocks old.image new.image ≡ []
unfolding changes
no_block_listed old new none =
    let rest = no_second (disk_change old new) _ none in
    let last = no_second (slot_changes old new (slot_count old new)) _ rest in
    no_blocks (differing_blocks old.image new.image) (no_first (where_any BlocksChanged (differing_blocks old.image new.image)) _ last)

-- there is no block after the last one
past_end : (image : List (List ℕ)) → sector_at image (length image) ≡ []
past_end [] = refl
past_end (sector ∷ image) = past_end image

-- a larger image has a block that the smaller one has not
larger_differs : (large small : List (List ℕ)) → All IsBlock large → length small < length large → differences large small ≡ [] → ⊥
larger_differs large small each less none =
    let block = length small in
    let here = (All-get_or IsBlock large block [] less each).0 in
    let other : sector_at large block ≢ sector_at small block = λ same. let e = ap length (same ∙ past_end small) in omega (arith, here, e) in
    let reported = differences-to large small block less other in
    let within : reported.0 < length (differences large small) = reported.1 in
    let e = ap length none in
    omega (arith, within, e)

-- the blocks that changed, by how many blocks there are
abbrev by_counts : List (List ℕ) → List (List ℕ) → ℕ → ℕ → List ℕ
by_counts old new few many = if nat_lt few many then differences new old else differences old new

-- images in which no block changed are equal, by their sizes
by_sizes : (old new : List (List ℕ)) → IsSize (length old) → IsSize (length new) → All IsBlock old → All IsBlock new → differing_blocks old new ≡ [] → old ≡ new
by_sizes old new (inl a) (inl b) is_old is_new none = equal_images old new (a ∙ sym b) (sym (ap₂ (by_counts old new) a b) ∙ none)
by_sizes old new (inr a) (inr b) is_old is_new none = equal_images old new (a ∙ sym b) (sym (ap₂ (by_counts old new) a b) ∙ none)
by_sizes old new (inl a) (inr b) is_old is_new none =
    absurd (larger_differs new old is_new (omega (arith, a, b)) (sym (ap₂ (by_counts old new) a b) ∙ none))
by_sizes old new (inr a) (inl b) is_old is_new none =
    absurd (larger_differs old new is_old (omega (arith, a, b)) (sym (ap₂ (by_counts old new) a b) ∙ none))

-- if no change is listed, the images are equal
pub equal_if_silent : (old new : DumpView) → IsDump old → IsDump new → changes old new ≡ [] → old.image ≡ new.image
equal_if_silent old new is_old is_new none =
    by_sizes old.image new.image is_old.0.0 is_new.0.0 is_old.0.1 is_new.0.1 (no_block_listed old new none)
