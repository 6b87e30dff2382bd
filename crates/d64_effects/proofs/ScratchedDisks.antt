-- what a disk without the deleted files is, and what it shows
use Rattle.std.proofs.Common.{◌≡◌, ◌≢◌, ℕ, suc, ◌+◌, ◌<◌, ◌≤◌, ◌&&◌, Bool, true, false, cond, nat_eq, List, [], ◌∷◌, length, map, Option, Some, None, refl, sym, ap, ap₂, ◌∙◌, inl, inr, arith}
use Rattle.std.specs.Prelude.{All, filter, fold, option_map}
use Rattle.std.specs.List.{list_any, flat_map, filter_map, cons_option, enumerate_from, IsDistinct}
use Rattle.std.specs.FinSet as set
use Rattle.std.proofs.lemmas.Bool.{or_cases, or_from}
use Rattle.d64_image.specs.BlockSet.{MembersAreBelow}
use Rattle.d64_image.specs.Image.{IsImage}
use Rattle.d64_map.specs.Map.{free_blocks, CountsFit}
use Rattle.d64_files.specs.Clearing.{with_cleared_slot}
use Rattle.d64_files.specs.Directory.{directory, slots, slot_owns, owned_blocks}
use Rattle.d64_files.specs.Ownership.{owned_by, HasItsChains}
use Rattle.d64_files.specs.Slot.{HasKind, is_used}
use Rattle.d64_files.specs.declared.dir_fault.DirFault.TheVariants.{WrongCounts, UnknownKind, NoChain, CrossLinked}
use Rattle.d64_effects.specs.Clear.{with_cleared, with_freed}
use Rattle.d64_effects.specs.Contents.{ListedFile, listed_file}
use Rattle.d64_effects.specs.ContentsAfter.{is_scratched_row}
use Rattle.d64_effects.specs.Delete.{is_scratched_slot, scratched_slots, without_files, scratched_disk}
use Rattle.d64_effects.specs.Laws.{ScratchedIsImage, ScratchedIsSound, ScratchedShows, ScratchedAreCounted}
use Rattle.d64_effects.specs.View.{FileView, IsSound, slot_view, file_view, view}
use Rattle.d64_files.specs.DiskHeader.{disk_field, disk_id}
use Rattle.d64_effects.specs.ViewAfter.{is_scratched_file, scratched_view}
use Rattle.d64_effects.proofs.AlteredDisks.{Altered, same_map, remapped, map_not_listed, held_by, sound_after, view_after}
use Rattle.d64_effects.proofs.CellFields.{HasKind-unused, HasItsChains-unused}
use Rattle.d64_effects.proofs.ClearedDisks.{is_used-cleared, All-cleared, occurs-cleared, shown-cleared, blocks-given, owned_within, owned_at_numbers, contains-with_freed}
use Rattle.d64_effects.proofs.FormattedDisks.{view_of}
use Rattle.d64_effects.proofs.Frames.{slot_view-is}
use Rattle.d64_effects.proofs.NewDirectory.{has_directory}
use Rattle.d64_effects.proofs.Occurrences.{occurs, occurs-present, absent-from_occurs}
use Rattle.d64_effects.proofs.SlotChanges.{SlotsChanged, cleared, cleared_if, numbers_from, slots_sized, slots_cleared}
use Rattle.d64_effects.proofs.TakenBlocks.{free_is_block, occurs-owned, owned_once, owned_not_free}

-- the blocks that slots give back
abbrev given_by : List (List ℕ) → List ℕ → List ℕ
given_by image numbers = flat_map (slot_owns image) numbers

-- the image without the files of slots that were cleared
altered : (image cells : List (List ℕ)) (numbers : List ℕ) → IsImage image → directory image ≢ [] → IsDistinct nat_eq (owned_blocks image)
    → CountsFit image → MembersAreBelow (length image) (with_freed (free_blocks image) (given_by image numbers))
    → SlotsChanged image (fold with_cleared_slot image numbers) cells
    → Altered image (without_files image numbers) cells (with_freed (free_blocks image) (given_by image numbers))
altered image cells [] is some distinct fit members changed = same_map image image cells changed (map_not_listed image distinct) fit
altered image cells (slot ∷ others) is some distinct fit members changed =
    remapped image (with_cleared image (slot ∷ others)) cells (with_freed (free_blocks image) (given_by image (slot ∷ others))) is some changed
    (map_not_listed image distinct) members

-- the slots after deleting files, and the blocks that they give back
abbrev cells_left : List (List ℕ) → List (List ℕ) → List (List ℕ)
cells_left image patterns = map (cleared_if (is_scratched_slot patterns)) (slots image)

abbrev given_back : List (List ℕ) → List (List ℕ) → List ℕ
given_back image patterns = given_by image (scratched_slots image patterns)

-- deleting files on a sound image
module _ (image patterns : List (List ℕ)) (is : IsImage image) (sound : IsSound image) where
  some : directory image ≢ []
  some = has_directory image sound

  distinct : IsDistinct nat_eq (owned_blocks image)
  distinct = sound CrossLinked (omega arith) (omega arith)

  sized : All (λ cell. length cell ≡ 32) (slots image)
  sized = slots_sized image is some

  same_given : given_back image patterns ≡ flat_map (owned_by image) (filter (is_scratched_slot patterns) (slots image))
  same_given = owned_at_numbers image (is_scratched_slot patterns) (slots image) (slots image) [] 0 refl refl

  -- what is given back was owned before, and isn't afterwards
  split : (q : ℕ) → occurs q (flat_map (owned_by image) (slots image))
      ≡ occurs q (flat_map (owned_by image) (cells_left image patterns))
      + occurs q (given_back image patterns)
  split q =
      let e = occurs-cleared image (is_scratched_slot patterns) q (slots image) sized in
      let f = ap (occurs q) same_given in
      omega arith

  given_within : (q : ℕ) → 1 ≤ occurs q (given_back image patterns) → q < length image
  given_within q there =
      let e = split q in
      let g = owned_within image (slots image) q (omega arith) in
      omega arith

  pub members : MembersAreBelow (length image) (with_freed (free_blocks image) (given_back image patterns))
  members q member =
      let given : List ℕ = given_back image patterns in
      elim (or_cases (list_any (nat_eq q) given) (set.contains (free_blocks image) q) (sym (contains-with_freed (free_blocks image) given q) ∙ member)) [
        | inl back ↦ given_within q (occurs-present q given back)
        | inr free ↦ free_is_block image q free
      ]

  left : Altered image (scratched_disk image patterns) (cells_left image patterns)
      (with_freed (free_blocks image) (given_back image patterns))
  unfolding scratched_disk
  left =
      altered image (cells_left image patterns) (scratched_slots image patterns) is some distinct
      (sound WrongCounts (omega arith) (omega arith)) members (slots_cleared (is_scratched_slot patterns) image is)

  chains : All (HasItsChains image) (cells_left image patterns)
  chains =
      All-cleared (HasItsChains image) (is_scratched_slot patterns) (slots image)
      (λ cell long. HasItsChains-unused image (cleared cell) (is_used-cleared cell long)) sized (sound NoChain (omega arith) (omega arith))

  kinds_known : All HasKind (cells_left image patterns)
  kinds_known =
      All-cleared HasKind (is_scratched_slot patterns) (slots image) (λ cell long. HasKind-unused (cleared cell) (is_used-cleared cell long)) sized
      (sound UnknownKind (omega arith) (omega arith))

  fewer : (q : ℕ) → occurs q (flat_map (owned_by image) (cells_left image patterns))
      ≤ occurs q (flat_map (owned_by image) (slots image))
  fewer q = let e = split q in omega arith

  unfree : (q : ℕ) → 1 ≤ held_by image (cells_left image patterns) q
      → set.contains (with_freed (free_blocks image) (given_back image patterns)) q ≡ false
  unfree q held =
      let given : List ℕ = given_back image patterns in
      let e = split q in
      let own = occurs-owned image q in
      let once = owned_once image sound q in
      contains-with_freed (free_blocks image) given q
      ∙ or_from (list_any (nat_eq q) given) (set.contains (free_blocks image) q) (absent-from_occurs q given (omega arith))
      (owned_not_free image sound q (omega arith))

  scratched-keeps_sound : IsSound (scratched_disk image patterns)
  scratched-keeps_sound =
      sound_after image (scratched_disk image patterns) (cells_left image patterns)
      (with_freed (free_blocks image) (given_back image patterns)) is some distinct left chains fewer kinds_known unfree

  scratched-views : view (scratched_disk image patterns) ≡ scratched_view (view image) patterns
  unfolding view scratched_view
  scratched-views =
      view_after image (scratched_disk image patterns) (cells_left image patterns)
      (with_freed (free_blocks image) (given_back image patterns)) is some distinct left chains fewer
      ∙ ap₂ (λ (rows : List (Option FileView)) (given : List ℕ).
      view_of (length image) (disk_field image) (disk_id image) (directory image) rows (with_freed (free_blocks image) given))
      (shown-cleared image (is_scratched_slot patterns) (is_scratched_file patterns) (λ cell. refl) (slots image) sized)
      (same_given ∙ sym (blocks-given image (is_scratched_slot patterns) (is_scratched_file patterns) (λ cell. refl) (slots image)))

  scratched-stays_image : IsImage (scratched_disk image patterns)
  scratched-stays_image = left.is_image

pub scratched-is_image : ScratchedIsImage
scratched-is_image image patterns is sound = scratched-stays_image image patterns is sound

pub scratched-is_sound : ScratchedIsSound
scratched-is_sound image patterns is sound = scratched-keeps_sound image patterns is sound

pub scratched-shows : ScratchedShows
scratched-shows image patterns is sound = scratched-views image patterns is sound

-- what slots list
abbrev listed_slots : List (List ℕ) → List (List ℕ) → List ListedFile
listed_slots image cells = filter_map (option_map listed_file) (map (slot_view image) cells)

-- one slot more
counted_once : (image patterns : List (List ℕ)) (cell : List ℕ) (n : ℕ) (passed : List (ℕ × List ℕ)) (rows : List ListedFile)
    → length (map (λ (slot : ℕ × List ℕ). slot.0) passed) ≡ length (filter (is_scratched_row patterns) rows)
    → (used : Bool)
    → length (map (λ (slot : ℕ × List ℕ). slot.0) (cond (used && is_scratched_file patterns (file_view image cell)) ((n, cell) ∷ passed) passed))
    ≡ length (filter (is_scratched_row patterns) (cons_option (option_map listed_file (cond used (Some (file_view image cell)) None)) rows))
counted_once image patterns cell n passed rows later false = later
counted_once image patterns cell n passed rows later true = by_test (is_scratched_file patterns (file_view image cell))
  where
    by_test : (b : Bool) → length (map (λ (slot : ℕ × List ℕ). slot.0) (cond b ((n, cell) ∷ passed) passed))
        ≡ length (cond b (listed_file (file_view image cell) ∷ filter (is_scratched_row patterns) rows) (filter (is_scratched_row patterns) rows))
    by_test true = ap (λ (count : ℕ). suc count) later
    by_test false = later

counted : (image patterns cells : List (List ℕ)) (n : ℕ)
    → length (numbers_from (is_scratched_slot patterns) n cells) ≡ length (filter (is_scratched_row patterns) (listed_slots image cells))
counted image patterns [] n = refl
counted image patterns (cell ∷ cells) n =
    counted_once image patterns cell n (filter (λ (slot : ℕ × List ℕ). is_scratched_slot patterns slot.1) (enumerate_from (n + 1) cells))
    (listed_slots image cells) (counted image patterns cells (n + 1)) (is_used cell)
    ∙ ap (λ (shown : Option FileView). length (filter (is_scratched_row patterns) (cons_option (option_map listed_file shown) (listed_slots image cells))))
    (sym (slot_view-is image cell))

pub scratched-are_counted : ScratchedAreCounted
unfolding view
scratched-are_counted image patterns = counted image patterns (slots image) 0
