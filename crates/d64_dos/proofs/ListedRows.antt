-- The rows of the slots along a walk, the name of the slot of a number, and what a listing has
-- beside its rows.
use Rattle.std.proofs.Common.{◌≡◌, ℕ, suc, ◌+◌, ◌≤◌, Bool, true, false, cond, List, [], ◌∷◌, length, take, drop, get_or, Option, Some, refl, sym, ap, ◌∙◌, arith}
use Rattle.std.specs.Prelude.{map, filter, find, slice_get, slice_range, option_map}
use Rattle.std.specs.Option.{option_map_or}
use Rattle.std.proofs.lemmas.List.{drop_more}
use Rattle.d64_image.specs.Image.{sector_at}
use Rattle.d64_map.specs.Map.{map_block, blocks_free}
use Rattle.d64_files.specs.Name.{name_in}
use Rattle.d64_files.specs.Slot.{EntryView, is_used, name_of}
use Rattle.d64_files.specs.Directory.{slots, entry_of, entries, is_named, first_named}
use Rattle.d64_files.proofs.Owners.{entries_from}
use Rattle.d64_files.proofs.SlotLists.{found-entry}
use Rattle.d64_files.specs.DiskHeader.{disk_field, disk_id}
use Rattle.d64_dos.specs.Listing.{RowView, listed_row_of, rows_of, listing_of}
use Rattle.d64_dos.specs.Reading.{name_at}

-- an entry of a used slot
abbrev used_entry : EntryView → Bool
used_entry entry = is_used entry.bytes

-- the rows of entries are those of the slots, from any number on
rows_from : (image : List (List ℕ)) (n : ℕ) (cells : List (List ℕ)) → rows_of (entries_from image n cells) ≡ map listed_row_of (filter is_used cells)
rows_from image n [] = refl
rows_from image n (cell ∷ cells) = by_test (is_used cell) (rows_from image (n + 1) cells)
  where
    rest : List EntryView
    rest = filter used_entry (entries_from image (n + 1) cells)

    by_test : (used : Bool) → map (λ (entry : EntryView). listed_row_of entry.bytes) rest ≡ map listed_row_of (filter is_used cells)
        → map (λ (entry : EntryView). listed_row_of entry.bytes) (cond used (entry_of image (n, cell) ∷ rest) rest)
        ≡ map listed_row_of (cond used (cell ∷ filter is_used cells) (filter is_used cells))
    by_test true same = ap (λ (rows : List RowView). listed_row_of cell ∷ rows) same
    by_test false same = same

-- so for all slots of a directory
pub rows-entries : (image : List (List ℕ)) → rows_of (entries image (slots image)) ≡ map listed_row_of (filter is_used (slots image))
rows-entries image = rows_from image 0 (slots image)

-- an entry among those that are numbered from another one on: its number, and its bytes
record LiesAt (k : ℕ) (cells : List (List ℕ)) (entry : EntryView) : Type 0 where
  index : ℕ
  number : entry.slot ≡ k + index
  bytes : slice_get cells index ≡ Some entry.bytes

-- an entry that was found by a test of its bytes
found_from : (test : List ℕ → Bool) (image : List (List ℕ)) (k : ℕ) (cells : List (List ℕ)) (entry : EntryView)
    → Some entry ≡ find (λ (e : EntryView). test e.bytes) (entries_from image k cells) → LiesAt k cells entry
found_from test image k [] entry e = absurd (cc)
found_from test image k (cell ∷ cells) entry e = by_test (test cell) (found_from test image (k + 1) cells entry) e
  where
    rest : Option EntryView
    rest = find (λ (e : EntryView). test e.bytes) (entries_from image (k + 1) cells)

    by_test : (passes : Bool) → (Some entry ≡ rest → LiesAt (k + 1) cells entry) → Some entry ≡ cond passes (Some (entry_of image (k, cell))) rest
        → LiesAt k (cell ∷ cells) entry
    by_test true later same =
        let is : entry ≡ entry_of image (k, cell) = cc in
        record { index = 0; number = let n = ap (λ (e : EntryView). e.slot) is in omega arith; bytes = ap (λ (e : EntryView). Some e.bytes) (sym is) }
    by_test false later same =
        let there = later same in
        record { index = suc there.index; number = let n = there.number in omega arith; bytes = there.bytes }

-- the entry that a pattern finds in the directory of an image
abbrev pub entry_named : List (List ℕ) → List ℕ → Option EntryView
entry_named image pattern = find (λ (e : EntryView). is_named pattern e.bytes) (entries image (slots image))

-- the bytes of the entry that a pattern finds are those of the slot of its number
bytes_of_named : (image : List (List ℕ)) (pattern : List ℕ) (entry : EntryView)
    → Some entry ≡ entry_named image pattern → slice_get (slots image) entry.slot ≡ Some entry.bytes
bytes_of_named image pattern entry e =
    let found = found_from (is_named pattern) image 0 (slots image) entry e in
    let n = found.number in
    let same : entry.slot ≡ found.index = omega arith in
    ap (slice_get (slots image)) same ∙ found.bytes

-- and its number is that of the first slot that the pattern matches
pub number_of_named : (image : List (List ℕ)) (pattern : List ℕ) (found : Option EntryView)
    → found ≡ entry_named image pattern → option_map (λ (e : EntryView). e.slot) found ≡ first_named pattern (slots image)
number_of_named image pattern found e =
    ap (option_map (λ (e : EntryView). e.slot)) e ∙ found-entry (is_named pattern) image (slots image)

-- the slot that a pattern finds: its number, and its bytes
pub record NamedSlot (image : List (List ℕ)) (pattern : List ℕ) (entry : EntryView) : Type 0 where
  pub number : Some entry.slot ≡ first_named pattern (slots image)
  pub bytes : slice_get (slots image) entry.slot ≡ Some entry.bytes

pub named_slot : (image directory : List (List ℕ)) (pattern : List ℕ) (entry : EntryView) → directory ≡ image
    → Some entry ≡ entry_named directory pattern → NamedSlot image pattern entry
named_slot image directory pattern entry same e =
    let found : Some entry ≡ entry_named image pattern = e ∙ ap (λ (i : List (List ℕ)). entry_named i pattern) same in
    record { number = number_of_named image pattern (Some entry) found; bytes = bytes_of_named image pattern entry found }

-- the name in the slot of that number
pub name_of_named : (image : List (List ℕ)) (entry : EntryView) → slice_get (slots image) entry.slot ≡ Some entry.bytes → name_of entry.bytes ≡ name_at image entry.slot
name_of_named image entry e = ap (λ (cell : Option (List ℕ)). option_map_or name_of cell []) (sym e)

-- two bytes next to each other
pub two_bytes : (bytes : List ℕ) (place : ℕ) → place + 2 ≤ length bytes
    → get_or bytes place 0 ∷ get_or bytes (place + 1) 0 ∷ [] ≡ take 2 (drop place bytes)
two_bytes bytes place within =
    sym (ap (take 2)
    (drop_more bytes place 0 (omega arith) ∙ ap (λ (rest : List ℕ). get_or bytes place 0 ∷ rest) (drop_more bytes (place + 1) 0 (omega arith))))

-- what the directory of an image lists, field by field
pub listing_by_fields : (image : List (List ℕ)) (name id dos : List ℕ) (rows : List RowView) (free : ℕ)
    → name ≡ name_in (disk_field image) → id ≡ disk_id image
    → dos ≡ slice_range (sector_at image map_block) 0xA5 0xA7
    → rows ≡ map listed_row_of (filter is_used (slots image)) → free ≡ blocks_free image
    → record { name = name; id = id; dos = dos; rows = rows; free = free } ≡ listing_of image
unfolding listing_of
listing_by_fields image name id dos rows free of_name of_id of_dos of_rows of_free = cc
