-- the directory after a new entry
use Rattle.std.proofs.Common.{◌≡◌, ◌≢◌, ℕ, ◌/◌, ◌%◌, ◌<◌, ◌≤◌, ◌||◌, Bool, true, false, not, eq-eqb, nat_eq, List, [], ◌∷◌, ◌++◌, length, map, take, drop, get_or, set, Option, Some, None, refl, sym, ap, ◌∙◌, arith}
use Rattle.std.specs.Prelude.{All, replicate}
use Rattle.std.specs.List.{list_any}
use Rattle.std.specs.Option.{option_to_list}
use Rattle.std.proofs.lemmas.List.{map-set, drop_at, length-take-le, append-nil}
use Rattle.std.proofs.lemmas.List.Quantifiers.{position-Some}
use Rattle.d64_image.specs.Image.{IsImage, sector_at}
use Rattle.d64_map.specs.Map.{free_blocks}
use Rattle.d64_files.specs.Directory.{directory, slots}
use Rattle.d64_files.specs.Slot.{is_used}
use Rattle.d64_files.specs.Writing.{first_unused, dir_last, slot_block, with_entry}
use Rattle.d64_files.specs.declared.dir_fault.DirFault.TheVariants.{NoDirectory}
use Rattle.d64_files.proofs.Chains.{all_within}
use Rattle.d64_files.proofs.SlotLists.{length-slots_in, slot_at_place}
use Rattle.d64_files.specs.Directory.{directory_start}
use Rattle.d64_effects.specs.Laws.{HasRoom}
use Rattle.d64_effects.specs.View.{IsSound}
use Rattle.d64_effects.specs.Write.{next_of_directory, grown_by, directory_grown, with_entry_in, with_new_entry}
use Rattle.d64_effects.proofs.DirectoryEntries.{slot_block-is_held, sector_at-with_entry, IsImage-with_entry, length-with_entry, directory-with_entry, slots-with_entry, length-cell, Chain-directory}
use Rattle.d64_effects.proofs.DirectoryGrowth.{grown_with, sector_at-grown, dir_last-is_held, IsImage-grown, length-grown, directory-grown, slots-grown}
use Rattle.d64_effects.proofs.Occurrences.{occurs, occurs-append, occurs-present, absent-from_occurs}
use Rattle.d64_effects.proofs.Rows.{with_row}
use Rattle.d64_effects.proofs.TakenBlocks.{growth_by, grown_free, free_is_block, free_not_owned, occurs-owned}

-- an image with one more entry: in a slot that is there, or in the first slot of one more block of
-- the directory
pub record NewEntry (image other : List (List ℕ)) (place : Option ℕ) (grown entry : List ℕ) : Type 0 where
  pub is_image : IsImage other
  pub long : length other ≡ length image
  pub blocks : directory other ≡ directory image ++ grown
  pub entries : map (drop 2) (slots other) ≡ with_row (map (drop 2) (slots image)) place entry (replicate 30 0)
  pub kept : (block : ℕ) → occurs block (directory image ++ grown) ≡ 0 → sector_at other block ≡ sector_at image block

-- a sound image has a directory
pub has_directory : (image : List (List ℕ)) → IsSound image → directory image ≢ []
has_directory image sound = sound NoDirectory (omega arith) (omega arith)

-- a slot has 32 bytes
pub length-slot : (image : List (List ℕ)) (slot : ℕ) → IsImage image → directory image ≢ [] → slot < length (slots image)
    → length (get_or (slots image) slot []) ≡ 32
length-slot image slot is some within =
    let here : slot / 8 < length (directory image) = omega (arith, length-slots_in image (directory image)) in
    let block : ℕ = get_or (directory image) (slot / 8) 0 in
    let inside : block < length image = all_within image directory_start (directory image) (Chain-directory image some) (slot / 8) 0 here in
    ap length (slot_at_place image (directory image) slot here)
    ∙ length-cell (sector_at image block) (slot % 8) (is.1 block [] inside).0 (omega arith)

-- a block that isn't in a list is not one of its blocks
pub other_block : (block one : ℕ) (others : List ℕ) → occurs block others ≡ 0 → list_any (nat_eq one) others ≡ true → block ≢ one
other_block block one others absent present e =
    let f = occurs-present one others present in
    let g = ap (λ (q : ℕ). occurs q others) e in
    omega arith

-- an entry in a slot that is there
in_slot : (image : List (List ℕ)) (slot : ℕ) (entry : List ℕ) → IsImage image → directory image ≢ [] → slot < length (slots image) → length entry ≡ 30
    → All (λ byte. byte < 256) entry → NewEntry image (with_entry image slot entry) (Some slot) [] entry
in_slot image slot entry is some within long bytes =
    let old : List ℕ = get_or (slots image) slot [] in
    let size = length-slot image slot is some within in
    let two : length (take 2 old) ≡ 2 = length-take-le 2 old (omega arith) in
    record {
      is_image = IsImage-with_entry image slot entry is within long bytes;
      long = length-with_entry image slot entry;
      blocks = directory-with_entry image slot entry is some within long ∙ sym (append-nil (directory image));
      entries =
          ap (map (drop 2)) (slots-with_entry image slot entry is some within long)
          ∙ map-set (drop 2) (slots image) slot (take 2 old ++ entry)
          ∙ ap (set (map (drop 2) (slots image)) slot) (drop_at (take 2 old) entry 2 two);
      kept = λ block absent.
          let none : occurs block (directory image) ≡ 0 = ap (occurs block) (sym (append-nil (directory image))) ∙ absent in
          sector_at-with_entry image slot entry block
          (other_block block (slot_block image slot) (directory image) none (slot_block-is_held image slot within));
    }

-- an entry in a new block of the directory
in_growth : (image : List (List ℕ)) (new : ℕ) (entry : List ℕ) → IsImage image → directory image ≢ [] → new < length image
    → occurs new (directory image) ≡ 0 → length entry ≡ 30 → All (λ byte. byte < 256) entry
    → NewEntry image (grown_with image new entry) None (new ∷ []) entry
in_growth image new entry is some within fresh long bytes =
    let absent = absent-from_occurs new (directory image) fresh in
    record {
      is_image = IsImage-grown image new entry is some within long bytes;
      long = length-grown image new entry;
      blocks = directory-grown image new entry is some within absent long;
      entries = slots-grown image new entry is some within absent long;
      kept = λ block none.
          let parts = occurs-append block (directory image) (new ∷ []) in
          let here : occurs block (new ∷ []) ≡ 0 = omega arith in
          let there : occurs block (directory image) ≡ 0 = omega arith in
          sector_at-grown image new entry block
          (λ e. let f = occurs-present new (new ∷ []) (new_is_there new) in let g = ap (λ (q : ℕ). occurs q (new ∷ [])) e in omega arith)
          (other_block block (dir_last image) (directory image) there (dir_last-is_held image some));
    }
  where
    new_is_there : (new : ℕ) → list_any (nat_eq new) (new ∷ []) ≡ true
    new_is_there new = ap (λ (b : Bool). b || false) (eq-eqb new new refl)

-- either of them, as the directory has an unused slot or not
by_place : (image : List (List ℕ)) (entry : List ℕ) → IsImage image → IsSound image → length entry ≡ 30 → All (λ byte. byte < 256) entry
    → (place : Option ℕ) → first_unused (slots image) ≡ place → (place ≡ None → next_of_directory (free_blocks image) (dir_last image) ≢ None)
    → NewEntry image (with_entry_in image place (grown_by (free_blocks image) (dir_last image) place) entry) place
    (grown_by (free_blocks image) (dir_last image) place) entry
by_place image entry is sound long bytes (Some slot) e fits =
    in_slot image slot entry is (has_directory image sound) (position-Some (λ cell. not (is_used cell)) (slots image) slot [] e).0 long bytes
by_place image entry is sound long bytes None e fits = by_next (next_of_directory (free_blocks image) (dir_last image)) refl (fits refl)
  where
    by_next : (next : Option ℕ) → next_of_directory (free_blocks image) (dir_last image) ≡ next → next ≢ None
        → NewEntry image (with_entry_in image None (option_to_list next) entry) None (option_to_list next) entry
    by_next None found some = absurd (some refl)
    by_next (Some new) found some =
        let there : 1 ≤ occurs new (new ∷ []) = occurs-present new (new ∷ []) (ap (λ (b : Bool). b || false) (eq-eqb new new refl)) in
        let free = grown_free image (new ∷ []) (growth_by image (Some new) found) new there in
        let none = free_not_owned image sound new free.0 in
        let parts = occurs-owned image new in
        in_growth image new entry is (has_directory image sound) (free_is_block image new free.0) (omega arith) long bytes

pub new_entry : (image : List (List ℕ)) (entry : List ℕ) (bytes : ℕ) → IsImage image → IsSound image → HasRoom image bytes → length entry ≡ 30
    → All (λ byte. byte < 256) entry
    → NewEntry image (with_new_entry image entry) (first_unused (slots image)) (directory_grown image) entry
unfolding with_new_entry
new_entry image entry bytes is sound fits long small = by_place image entry is sound long small (first_unused (slots image)) refl fits.slot
