-- what a formatted disk shows: its directory of one block, eight unused slots, its name and its id
use Rattle.std.proofs.Common.{◌≡◌, ℕ, ◌+◌, ◌-◌, ◌<◌, ◌≤◌, Bool, true, false, cond, not, nat_eq, List, [], ◌∷◌, ◌++◌, map, length, take, drop, Option, Some, None, refl, sym, ap, ap₂, ◌∙◌, subst, arith, append-nil}
use Rattle.std.specs.Prelude.{All, slice_index, slice_range}
use Rattle.std.specs.List.{flat_map, IsDistinct}
use Rattle.std.specs.Option.{option_and_then, option_map_or}
use Rattle.std.specs.Ordering.{nat_cmp}
use Rattle.std.specs.FinSet as set
use Rattle.std.proofs.Math.ListN.{replicate}
use Rattle.std.proofs.lemmas.Bool.{lt-ltb, not-true}
use Rattle.std.proofs.lemmas.Bool.Decides.{nat_tests}
use Rattle.std.proofs.lemmas.List.{take_all, take-append-le, drop_at, drop-append-le, get_or-drop, get_or-take, length-take-le, get_or-set_same, get_or-set_other, length-append, length-drop, length-set, length-replicate}
use Rattle.std.proofs.lemmas.Grind.{same_number_lists}
use Rattle.std.proofs.lemmas.List.Elements.{All-nil, All-cons, All-head, All-tail, All-weaker}
use Rattle.std.proofs.lemmas.List.Sums.{AllPass-from_list_all}
use Rattle.std.proofs.lemmas.Map.Keys.{IsDistinct-cons}
use Rattle.d64_image.specs.declared.image.TheConstants.{BLOCK_BYTES}
use Rattle.d64_image.specs.Image.{IsBlock, IsSize, tracks_of, sector_at, with_sector}
use Rattle.d64_map.specs.Map.{map_block, is_entry, map_for, free_blocks}
use Rattle.d64_map.proofs.Maps.{elsewhere, length-map_for, sector_at-with_map, sector_at-with_map-other}
use Rattle.d64_files.specs.Chain.{chain, held_block, block_in, led_by}
use Rattle.d64_files.specs.Directory.{directory, slots, slots_in, owned_blocks, Holds}
use Rattle.d64_files.specs.Name.{IsName, filled_field}
use Rattle.d64_files.specs.Ownership.{owned_by, HasItsChains}
use Rattle.d64_files.specs.Slot.{cells, is_used, HasKind}
use Rattle.d64_files.specs.Writing.{empty_directory}
use Rattle.d64_files.specs.declared.dir_fault.DirFault.{DirFault}
use Rattle.d64_files.specs.declared.dir_fault.DirFault.TheVariants.{WrongCounts, NoDirectory, UnknownKind, NoChain, CrossLinked, MarkedFree}
use Rattle.d64_files.proofs.Chains.{chain_of_one, chain-is}
use Rattle.d64_files.proofs.SlotLists.{length-cells}
use Rattle.d64_files.specs.Directory.{directory_start}
use Rattle.d64_effects.specs.Format.{header, free_when_formatted, blank_disk, formatted_disk}
use Rattle.d64_effects.specs.Laws.{AreTwoBytes}
use Rattle.d64_effects.specs.View.{View, FileView, slot_view, view}
use Rattle.d64_files.specs.DiskHeader.{disk_field, disk_id}
use Rattle.d64_effects.specs.ViewAfter.{formatted_view}
use Rattle.d64_effects.proofs.CellFields.{HasKind-unused, owned_by-unused, HasItsChains-unused}
use Rattle.d64_effects.proofs.EmptyDisks.{length-formatted_disk, length-parts, contains-free, free_blocks-formatted_disk, counts-formatted_disk, IsBlock-header}
use Rattle.d64_files.proofs.WrittenBytes.{length-filled_field}
use Rattle.d64_effects.proofs.Frames.{slot_view-unused}
use Rattle.d64_effects.proofs.Places.{directory_start-place}

-- the blank image with only the map's block
length-labelled : (count : ℕ) (size : IsSize count) (name id : List ℕ) → length (with_sector (blank_disk count) map_block (header name id)) ≡ count
length-labelled count size name id = sym (length-set (with_sector (blank_disk count) map_block (header name id)) directory_start empty_directory) ∙ length-parts count size name id

length-blank_disk : (count : ℕ) (size : IsSize count) → length (blank_disk count) ≡ count
unfolding blank_disk
length-blank_disk count size = let zeros : List ℕ = replicate BLOCK_BYTES 0 in length-replicate count zeros

-- the directory's first block is empty
directory_start-formatted_disk : (count : ℕ) (size : IsSize count) (name id : List ℕ) → sector_at (formatted_disk count name id) directory_start ≡ empty_directory
unfolding formatted_disk
directory_start-formatted_disk count size name id =
    sector_at-with_map-other (with_sector (with_sector (blank_disk count) map_block (header name id)) directory_start empty_directory) (free_when_formatted count) directory_start
    (λ e. omega arith)
    ∙ get_or-set_same (with_sector (blank_disk count) map_block (header name id)) directory_start empty_directory [] (let l = length-labelled count size name id in omega arith)

-- the map's block is the label with the map
map_block-formatted_disk : (count : ℕ) (size : IsSize count) (name id : List ℕ) → sector_at (formatted_disk count name id) map_block ≡ map_for (tracks_of count) (header name id) (free_when_formatted count)
unfolding formatted_disk
map_block-formatted_disk count size name id =
    sector_at-with_map (with_sector (with_sector (blank_disk count) map_block (header name id)) directory_start empty_directory) (free_when_formatted count)
    (let l = length-parts count size name id in omega arith)
    ∙ ap₂ (λ (n : ℕ) (bytes : List ℕ). map_for (tracks_of n) bytes (free_when_formatted count)) (length-parts count size name id)
    (get_or-set_other (with_sector (blank_disk count) map_block (header name id)) directory_start map_block empty_directory [] (λ e. omega arith)
    ∙ get_or-set_same (blank_disk count) map_block (header name id) [] (let l = length-blank_disk count size in omega arith))

-- a directory whose first block has no link
directory-of_one : (image : List (List ℕ)) → directory_start < length image → slice_index (sector_at image directory_start) 0 ≡ 0
    → directory image ≡ directory_start ∷ []
unfolding block_in led_by
directory-of_one image inside ends =
    let second : ℕ = slice_index (sector_at image directory_start) 1 in
    ap (λ (block : Option ℕ). option_map_or (chain image) (option_and_then (held_block image) block) []) directory_start-place
    ∙ ap (λ (has : Bool). option_map_or (chain image) (cond has (Some directory_start) None) []) (lt-ltb directory_start (length image) inside)
    ∙ chain-is image directory_start (directory_start ∷ [])
    (chain_of_one image directory_start inside (ap (λ (track : ℕ). led_by image (track, second)) ends))

first_byte : slice_index empty_directory 0 ≡ 0
unfolding empty_directory
first_byte = refl

pub directory-formatted_disk : (count : ℕ) (size : IsSize count) (name id : List ℕ) → directory (formatted_disk count name id) ≡ directory_start ∷ []
directory-formatted_disk count size name id =
    directory-of_one (formatted_disk count name id) (let l = length-formatted_disk count size name id in omega arith)
    (ap (λ (bytes : List ℕ). slice_index bytes 0) (directory_start-formatted_disk count size name id) ∙ first_byte)

-- its slots are those of the empty block
pub slots-formatted_disk : (count : ℕ) (size : IsSize count) (name id : List ℕ) → slots (formatted_disk count name id) ≡ cells empty_directory
slots-formatted_disk count size name id =
    ap (slots_in (formatted_disk count name id)) (directory-formatted_disk count size name id)
    ∙ append-nil (cells (sector_at (formatted_disk count name id) directory_start))
    ∙ ap cells (directory_start-formatted_disk count size name id)

-- each slot of the empty block is unused
abbrev IsUnused : List ℕ → Type 0
IsUnused cell = is_used cell ≡ false

unused_slots : All IsUnused (cells empty_directory)
unfolding cells empty_directory
unused_slots =
    All-weaker (λ (cell : List ℕ). not (is_used cell) ≡ true) IsUnused (λ cell h. not-true (is_used cell) h) (cells empty_directory)
    (AllPass-from_list_all (λ (cell : List ℕ). not (is_used cell)) (cells empty_directory) refl)

pub unused-formatted_disk : (count : ℕ) (size : IsSize count) (name id : List ℕ) → All IsUnused (slots (formatted_disk count name id))
unused-formatted_disk count size name id = subst (All IsUnused) (sym (slots-formatted_disk count size name id)) unused_slots

-- slots that own nothing
flat_map-none : (f : List ℕ → List ℕ) (cells : List (List ℕ)) → All (λ cell. f cell ≡ []) cells → flat_map f cells ≡ []
flat_map-none f [] none = refl
flat_map-none f (cell ∷ cells) none =
    ap₂ (λ (xs ys : List ℕ). xs ++ ys) (All-head (λ c. f c ≡ []) cell cells none) (flat_map-none f cells (All-tail (λ c. f c ≡ []) cell cells none))

-- slots that show nothing
map-none : (f : List ℕ → Option FileView) (cells : List (List ℕ)) → All (λ cell. f cell ≡ None) cells → map f cells ≡ replicate (length cells) None
map-none f [] none = refl
map-none f (cell ∷ cells) none =
    ap₂ (λ (x : Option FileView) (xs : List (Option FileView)). x ∷ xs) (All-head (λ c. f c ≡ None) cell cells none)
    (map-none f cells (All-tail (λ c. f c ≡ None) cell cells none))

-- the map's block and the directory's are owned, and no other
pub owned_blocks-formatted_disk : (count : ℕ) (size : IsSize count) (name id : List ℕ) → owned_blocks (formatted_disk count name id) ≡ map_block ∷ directory_start ∷ []
unfolding owned_blocks
owned_blocks-formatted_disk count size name id =
    let image : List (List ℕ) = formatted_disk count name id in
    ap₂ (λ (xs ys : List ℕ). map_block ∷ (xs ++ ys)) (directory-formatted_disk count size name id)
    (flat_map-none (owned_by image) (slots image)
    (All-weaker IsUnused (λ cell. owned_by image cell ≡ []) (λ cell unused. owned_by-unused image cell unused) (slots image) (unused-formatted_disk count size name id)))

two_blocks : IsDistinct nat_eq (map_block ∷ directory_start ∷ [])
unfolding IsDistinct
two_blocks = IsDistinct-cons nat_eq map_block (directory_start ∷ []) (refl, tt) (IsDistinct-cons nat_eq directory_start [] tt tt)

-- a block of the two isn't free
is_marked : (count : ℕ) (size : IsSize count) (name id : List ℕ) (block : ℕ) → set.contains (free_when_formatted count) block ≡ false → set.contains (free_blocks (formatted_disk count name id)) block ≡ false
is_marked count size name id block marked = ap (λ (free : set.FinSet nat_cmp). set.contains free block) (free_blocks-formatted_disk count size name id) ∙ marked

-- a formatted disk meets each condition
pub holds-formatted_disk : (count : ℕ) (size : IsSize count) (name id : List ℕ) (fault : DirFault) → Holds (formatted_disk count name id) fault
holds-formatted_disk count size name id WrongCounts = counts-formatted_disk count size name id
holds-formatted_disk count size name id NoDirectory = λ none. let e : directory_start ∷ [] ≡ [] = sym (directory-formatted_disk count size name id) ∙ none in cc
holds-formatted_disk count size name id UnknownKind =
    All-weaker IsUnused HasKind (λ cell unused. HasKind-unused cell unused) (slots (formatted_disk count name id)) (unused-formatted_disk count size name id)
holds-formatted_disk count size name id NoChain =
    All-weaker IsUnused (HasItsChains (formatted_disk count name id)) (λ cell unused. HasItsChains-unused (formatted_disk count name id) cell unused)
    (slots (formatted_disk count name id)) (unused-formatted_disk count size name id)
holds-formatted_disk count size name id CrossLinked = subst (IsDistinct nat_eq) (sym (owned_blocks-formatted_disk count size name id)) two_blocks
holds-formatted_disk count size name id MarkedFree =
    let P : ℕ → Type 0 = λ block. set.contains (free_blocks (formatted_disk count name id)) block ≡ false in
    subst (All P) (sym (owned_blocks-formatted_disk count size name id))
    (All-cons P map_block (directory_start ∷ []) (is_marked count size name id map_block (contains-free count size map_block))
    (All-cons P directory_start [] (is_marked count size name id directory_start (contains-free count size directory_start)) (All-nil P)))

-- the map's block is unchanged at the label
pub part-map_for : (tracks : ℕ) (bytes : List ℕ) (free : set.FinSet nat_cmp) (n count : ℕ) → length bytes ≡ 256 → 144 ≤ n → n + count ≤ 192
    → take count (drop n (map_for tracks bytes free)) ≡ take count (drop n bytes)
part-map_for tracks bytes free n count long past before =
    let whole = length-map_for tracks bytes free in
    let a = length-drop n (map_for tracks bytes free) in
    let b = length-drop n bytes in
    let c = length-take-le count (drop n (map_for tracks bytes free)) (omega arith) in
    let d = length-take-le count (drop n bytes) (omega arith) in
    same_number_lists (take count (drop n (map_for tracks bytes free))) (take count (drop n bytes)) (omega arith) (λ k h.
    get_or-take count (drop n (map_for tracks bytes free)) k 0 (omega arith)
    ∙ get_or-drop n (map_for tracks bytes free) k 0 ∙ elsewhere tracks bytes free (n + k) long (between tracks (n + k) (omega arith) (omega arith))
    ∙ sym (get_or-take count (drop n bytes) k 0 (omega arith) ∙ get_or-drop n bytes k 0))
  where
    between : (tracks place : ℕ) → 144 ≤ place → place < 192 → is_entry tracks place ≡ false
    between tracks place past before = grind (arith, nat_tests)

-- a part of the front
range-append : (xs ys : List ℕ) (from to : ℕ) → from ≤ to → to ≤ length xs → slice_range (xs ++ ys) from to ≡ slice_range xs from to
range-append xs ys from to order inside =
    ap (take (to - from)) (drop-append-le from xs ys (omega arith))
    ∙ take-append-le (to - from) (drop from xs) ys (let l = length-drop from xs in omega arith)

-- the last part of the front
range_at_end : (xs ys : List ℕ) (from to : ℕ) → length xs ≡ from → length ys ≡ to - from → slice_range (xs ++ ys) from to ≡ ys
range_at_end xs ys from to begins long = ap (take (to - from)) (drop_at xs ys from begins) ∙ take_all (to - from) ys (omega arith)

-- the bytes before the label
abbrev front : List ℕ
front = 0x12 ∷ 0x01 ∷ 0x41 ∷ 0x00 ∷ replicate 140 0

-- the name and the id in the label
name_and_id : (field id back : List ℕ) → length field ≡ 16 → length id ≡ 2 → (bytes : List ℕ)
    → bytes ≡ front ++ field ++ (0xA0 ∷ 0xA0 ∷ []) ++ id ++ (0xA0 ∷ []) ++ (0x32 ∷ 0x41 ∷ []) ++ replicate 4 0xA0 ++ back
    → (slice_range bytes 0x90 0xA0 ≡ field) × (slice_range bytes 0xA2 0xA4 ≡ id)
name_and_id field id back sixteen two bytes is =
    let w1 : List ℕ = front ++ field in
    let w2 : List ℕ = w1 ++ (0xA0 ∷ 0xA0 ∷ []) in
    let w3 : List ℕ = w2 ++ id in
    let w4 : List ℕ = w3 ++ (0xA0 ∷ []) in
    let w5 : List ℕ = w4 ++ (0x32 ∷ 0x41 ∷ []) in
    let w6 : List ℕ = w5 ++ replicate 4 0xA0 in
    let e1 : length w1 ≡ 144 + length field = length-append front field in
    let e2 : length w2 ≡ length w1 + 2 = length-append w1 (0xA0 ∷ 0xA0 ∷ []) in
    let e3 : length w3 ≡ length w2 + length id = length-append w2 id in
    let e4 : length w4 ≡ length w3 + 1 = length-append w3 (0xA0 ∷ []) in
    let e5 : length w5 ≡ length w4 + 2 = length-append w4 (0x32 ∷ 0x41 ∷ []) in
    let e6 : length w6 ≡ length w5 + 4 = length-append w5 (replicate 4 0xA0) in
    let shorter : (from to : ℕ) → from ≤ to → to ≤ length w3 → slice_range bytes from to ≡ slice_range w3 from to = λ from to order inside.
    ap (λ (xs : List ℕ). slice_range xs from to) is
    ∙ range-append w6 back from to order (omega arith) ∙ range-append w5 (replicate 4 0xA0) from to order (omega arith)
    ∙ range-append w4 (0x32 ∷ 0x41 ∷ []) from to order (omega arith) ∙ range-append w3 (0xA0 ∷ []) from to order (omega arith) in (
      shorter 0x90 0xA0 (omega arith) (omega arith)
          ∙ range-append w2 id 0x90 0xA0 (omega arith) (omega arith) ∙ range-append w1 (0xA0 ∷ 0xA0 ∷ []) 0x90 0xA0 (omega arith) (omega arith)
          ∙ range_at_end front field 0x90 0xA0 refl sixteen,
      shorter 0xA2 0xA4 (omega arith) (omega arith) ∙ range_at_end w2 id 0xA2 0xA4 (omega arith) two,
    )

label : (name id : List ℕ) → IsName name → AreTwoBytes id → (slice_range (header name id) 0x90 0xA0 ≡ filled_field name) × (slice_range (header name id) 0xA2 0xA4 ≡ id)
unfolding header
label name id named two = name_and_id (filled_field name) id (replicate 85 0) (length-filled_field name named.short) two.0 (header name id) refl

-- the same in the formatted disk
part-formatted_disk : (count : ℕ) (size : IsSize count) (name id : List ℕ) (from to : ℕ) → IsName name → AreTwoBytes id → 144 ≤ from → from + (to - from) ≤ 192
    → slice_range (sector_at (formatted_disk count name id) map_block) from to ≡ slice_range (header name id) from to
part-formatted_disk count size name id from to named two past before =
    let block : IsBlock (header name id) = IsBlock-header name id named two in
    ap (λ (bytes : List ℕ). slice_range bytes from to) (map_block-formatted_disk count size name id)
    ∙ part-map_for (tracks_of count) (header name id) (free_when_formatted count) from (to - from) block.0 past before

disk_field-formatted_disk : (count : ℕ) (size : IsSize count) (name id : List ℕ) → IsName name → AreTwoBytes id → disk_field (formatted_disk count name id) ≡ filled_field name
disk_field-formatted_disk count size name id named two =
    let both = label name id named two in part-formatted_disk count size name id 0x90 0xA0 named two (omega arith) (omega arith) ∙ both.0

disk_id-formatted_disk : (count : ℕ) (size : IsSize count) (name id : List ℕ) → IsName name → AreTwoBytes id → disk_id (formatted_disk count name id) ≡ id
disk_id-formatted_disk count size name id named two =
    let both = label name id named two in part-formatted_disk count size name id 0xA2 0xA4 named two (omega arith) (omega arith) ∙ both.1

-- so it shows nothing
shown-formatted_disk : (count : ℕ) (size : IsSize count) (name id : List ℕ) → map (slot_view (formatted_disk count name id)) (slots (formatted_disk count name id)) ≡ replicate 8 None
shown-formatted_disk count size name id =
    let image : List (List ℕ) = formatted_disk count name id in
    let none : ℕ → List (Option FileView) = λ n. replicate n None in
    map-none (slot_view image) (slots image)
    (All-weaker IsUnused (λ cell. slot_view image cell ≡ None) (λ cell unused. slot_view-unused image cell unused) (slots image) (unused-formatted_disk count size name id))
    ∙ ap none (ap length (slots-formatted_disk count size name id) ∙ length-cells empty_directory)

-- a view by its parts
abbrev pub view_of : ℕ → List ℕ → List ℕ → List ℕ → List (Option FileView) → set.FinSet nat_cmp → View
view_of count name id directory slots free = record { count = count; name = name; id = id; directory = directory; slots = slots; free = free }

pub view-formatted_disk : (count : ℕ) (size : IsSize count) (name id : List ℕ) → IsName name → AreTwoBytes id → view (formatted_disk count name id) ≡ formatted_view count name id
unfolding view formatted_view
view-formatted_disk count size name id named two =
    let image : List (List ℕ) = formatted_disk count name id in
    ap (λ (n : ℕ). view_of n (disk_field image) (disk_id image) (directory image) (map (slot_view image) (slots image)) (free_blocks image)) (length-formatted_disk count size name id)
    ∙ ap₂ (λ (x y : List ℕ). view_of count x y (directory image) (map (slot_view image) (slots image)) (free_blocks image))
    (disk_field-formatted_disk count size name id named two) (disk_id-formatted_disk count size name id named two)
    ∙ ap₂ (λ (x : List ℕ) (y : List (Option FileView)). view_of count (filled_field name) id x y (free_blocks image)) (directory-formatted_disk count size name id)
    (shown-formatted_disk count size name id)
    ∙ ap (view_of count (filled_field name) id (directory_start ∷ []) (replicate 8 None)) (free_blocks-formatted_disk count size name id)
