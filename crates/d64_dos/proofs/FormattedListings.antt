-- what a formatted disk lists
use Rattle.std.proofs.Common.{◌≡◌, ℕ, ◌+◌, Bool, false, cond, List, [], ◌∷◌, ◌++◌, length, take, drop, replicate, refl, sym, ap, ap₂, ◌∙◌, arith, append_assoc}
use Rattle.std.specs.Prelude.{All, map, filter, slice_range}
use Rattle.std.proofs.lemmas.List.{drop_at, length-append, length-set, get_or-set_same, get_or-set_other}
use Rattle.std.proofs.lemmas.List.Elements.{All-head, All-tail}
use Rattle.d64_image.specs.Image.{IsSize, tracks_of, sector_at, with_sector}
use Rattle.d64_map.specs.Map.{map_block, map_for}
use Rattle.d64_map.proofs.Maps.{sector_at-with_map}
use Rattle.d64_files.specs.Directory.{slots}
use Rattle.d64_files.specs.Name.{IsName, filled_field, name_in}
use Rattle.d64_files.proofs.FilledNames.{name_in-filled_field}
use Rattle.d64_files.specs.Slot.{is_used}
use Rattle.d64_files.specs.Writing.{empty_directory}
use Rattle.d64_files.proofs.WrittenBytes.{length-filled_field}
use Rattle.d64_files.specs.Directory.{directory_start}
use Rattle.d64_effects.specs.Format.{header, free_when_formatted, blank_disk, formatted_disk}
use Rattle.d64_effects.specs.Laws.{AreTwoBytes, free_count_of}
use Rattle.d64_effects.specs.View.{View, view}
use Rattle.d64_files.specs.DiskHeader.{disk_field, disk_id}
use Rattle.d64_effects.specs.ViewAfter.{formatted_view}
use Rattle.d64_effects.proofs.EmptyDisks.{length-parts, blocks_free-formatted_disk, IsBlock-header}
use Rattle.d64_effects.proofs.FormattedDisks.{part-map_for, unused-formatted_disk, view-formatted_disk}
use Rattle.d64_dos.specs.Listing.{FormattedDiskLists, listed_row_of}
use Rattle.d64_dos.proofs.ListedRows.{listing_by_fields}

-- what the view of a formatted disk says of its name and its id
name_field : (count : ℕ) (size : IsSize count) (name id : List ℕ) → IsName name → AreTwoBytes id → disk_field (formatted_disk count name id) ≡ filled_field name
unfolding view formatted_view
name_field count size name id named two = ap (λ (shown : View). shown.name) (view-formatted_disk count size name id named two)

id_field : (count : ℕ) (size : IsSize count) (name id : List ℕ) → IsName name → AreTwoBytes id → disk_id (formatted_disk count name id) ≡ id
unfolding view formatted_view
id_field count size name id named two = ap (λ (shown : View). shown.id) (view-formatted_disk count size name id named two)

-- no slot is used
none_used : (cells : List (List ℕ)) → All (λ cell. is_used cell ≡ false) cells → filter is_used cells ≡ []
none_used [] unused = refl
none_used (cell ∷ cells) unused =
    ap (λ (used : Bool). cond used (cell ∷ filter is_used cells) (filter is_used cells)) (All-head (λ c. is_used c ≡ false) cell cells unused)
    ∙ none_used cells (All-tail (λ c. is_used c ≡ false) cell cells unused)

-- the map's block is the header with the map
header_of : (count : ℕ) (size : IsSize count) (name id : List ℕ) → sector_at (formatted_disk count name id) map_block ≡ map_for (tracks_of count) (header name id) (free_when_formatted count)
unfolding formatted_disk
header_of count size name id =
    let labelled : List (List ℕ) = with_sector (blank_disk count) map_block (header name id) in
    let p = length-parts count size name id in
    let a = length-set labelled directory_start empty_directory in
    let b = length-set (blank_disk count) map_block (header name id) in
    sector_at-with_map (with_sector labelled directory_start empty_directory) (free_when_formatted count) (omega arith)
    ∙ ap₂ (λ (n : ℕ) (bytes : List ℕ). map_for (tracks_of n) bytes (free_when_formatted count)) p
    (get_or-set_other labelled directory_start map_block empty_directory [] (λ e. omega arith)
    ∙ get_or-set_same (blank_disk count) map_block (header name id) [] (omega arith))

-- the version comes after the id
version_at : (before version fill back : List ℕ) → length before ≡ 165 → length version ≡ 2
    → take 2 (drop 165 (before ++ version ++ fill ++ back)) ≡ take 2 (version ++ (fill ++ back))
version_at before version fill back begins two =
    ap (λ (bytes : List ℕ). take 2 (drop 165 bytes)) (append_assoc (before ++ version) fill back ∙ append_assoc before version (fill ++ back))
    ∙ ap (take 2) (drop_at before (version ++ (fill ++ back)) 165 begins)

version_in : (name id : List ℕ) → IsName name → AreTwoBytes id → slice_range (header name id) 0xA5 0xA7 ≡ 0x32 ∷ 0x41 ∷ []
unfolding header
version_in name id named two =
    let front : List ℕ = 0x12 ∷ 0x01 ∷ 0x41 ∷ 0x00 ∷ replicate 140 0 in
    let w1 : List ℕ = front ++ filled_field name in
    let w2 : List ℕ = w1 ++ (0xA0 ∷ 0xA0 ∷ []) in
    let w3 : List ℕ = w2 ++ id in
    let w4 : List ℕ = w3 ++ (0xA0 ∷ []) in
    let e1 : length w1 ≡ 144 + length (filled_field name) = length-append front (filled_field name) in
    let e2 : length w2 ≡ length w1 + 2 = length-append w1 (0xA0 ∷ 0xA0 ∷ []) in
    let e3 : length w3 ≡ length w2 + length id = length-append w2 id in
    let e4 : length w4 ≡ length w3 + 1 = length-append w3 (0xA0 ∷ []) in
    let long = length-filled_field name named.short in
    let short = two.0 in
    version_at w4 (0x32 ∷ 0x41 ∷ []) (replicate 4 0xA0) (replicate 85 0) (omega arith) refl

version : (count : ℕ) (size : IsSize count) (name id : List ℕ) → IsName name → AreTwoBytes id → slice_range (sector_at (formatted_disk count name id) map_block) 0xA5 0xA7 ≡ 0x32 ∷ 0x41 ∷ []
version count size name id named two =
    let block = IsBlock-header name id named two in
    ap (λ (bytes : List ℕ). slice_range bytes 0xA5 0xA7) (header_of count size name id)
    ∙ part-map_for (tracks_of count) (header name id) (free_when_formatted count) 0xA5 2 block.0 (omega arith) (omega arith)
    ∙ version_in name id named two

-- a formatted disk lists its name, its id, the version, no file, and its free blocks
pub listed : FormattedDiskLists
listed count name id size named two =
    sym (listing_by_fields (formatted_disk count name id) name id (0x32 ∷ 0x41 ∷ []) [] (free_count_of count)
    (sym (ap name_in (name_field count size name id named two) ∙ name_in-filled_field name named))
    (sym (id_field count size name id named two))
    (sym (version count size name id named two))
    (sym (ap (map listed_row_of) (none_used (slots (formatted_disk count name id)) (unused-formatted_disk count size name id))))
    (sym (blocks_free-formatted_disk count size name id)))
