-- what a validated disk is, and what it shows
use Rattle.std.proofs.Common.{◌≡◌, ◌≢◌, ℕ, ◌<◌, ◌≤◌, true, false, not, nat_eq, List, [], ◌∷◌, ◌++◌, length, map, Option, refl, sym, ap, ap₂, ◌∙◌, arith}
use Rattle.std.specs.Prelude.{All}
use Rattle.std.specs.List.{list_any, flat_map, range_with_len, IsDistinct}
use Rattle.std.specs.FinSet as set
use Rattle.std.specs.FinSet.{contains-from_list_nat}
use Rattle.std.proofs.lemmas.Bool.{and_parts, and_left, ltb-true}
use Rattle.d64_image.specs.BlockSet.{MembersAreBelow}
use Rattle.d64_image.specs.Image.{IsImage}
use Rattle.d64_map.specs.Map.{map_block, all_of}
use Rattle.d64_map.proofs.FreeBlocks.{any-below}
use Rattle.d64_files.specs.Directory.{directory, slots, owned_blocks, AllHold}
use Rattle.d64_files.specs.Ownership.{owned_by, HasItsChains}
use Rattle.d64_files.specs.Slot.{HasKind}
use Rattle.d64_files.specs.declared.dir_fault.DirFault.TheVariants.{NoDirectory, UnknownKind, NoChain, CrossLinked}
use Rattle.d64_effects.specs.Clear.{with_cleared}
use Rattle.d64_effects.specs.Laws.{ValidatedIsImage, ValidatedIsSound, ValidatedShows}
use Rattle.d64_effects.specs.Validate.{is_unclosed, unclosed_slots, all_but, validated_disk}
use Rattle.d64_effects.specs.View.{FileView, IsSound, view}
use Rattle.d64_files.specs.DiskHeader.{disk_field, disk_id}
use Rattle.d64_effects.specs.ViewAfter.{validated_view, view_blocks_owned}
use Rattle.d64_effects.proofs.AlteredDisks.{Altered, remapped, map_not_listed, held_by, sound_after, view_after}
use Rattle.d64_effects.proofs.CellFields.{HasKind-unused, HasItsChains-unused}
use Rattle.d64_effects.proofs.ClearedDisks.{is_used-cleared, All-cleared, occurs-cleared, shown-cleared, blocks-owned}
use Rattle.d64_effects.proofs.FormattedDisks.{view_of}
use Rattle.d64_effects.proofs.Occurrences.{occurs, present-from_occurs}
use Rattle.d64_effects.proofs.SlotChanges.{cleared, cleared_if, slots_sized, slots_cleared}
use Rattle.d64_effects.proofs.TakenBlocks.{occurs-owned, contains-blocks_without}

-- a member of all blocks is a block
below_all : (n q : ℕ) → set.contains (all_of n) q ≡ true → q < n
below_all n q member = ltb-true q n (sym (contains-from_list_nat (range_with_len 0 n) q ∙ any-below n q) ∙ member)

-- all blocks but some are blocks
pub members-all_but : (count : ℕ) (owned : List ℕ) → MembersAreBelow count (all_but count owned)
members-all_but count owned q member =
    below_all count q
    (and_parts (not (list_any (nat_eq q) owned)) (set.contains (all_of count) q) (sym (contains-blocks_without (all_of count) owned q) ∙ member)).1

-- the slots after a validation
abbrev cells_left : List (List ℕ) → List (List ℕ)
cells_left image = map (cleared_if is_unclosed) (slots image)

-- a validation of an image whose directory, files and chains are in order
module _ (image : List (List ℕ)) (is : IsImage image) (accepted : AllHold image 2 5) where
  some : directory image ≢ []
  some = accepted NoDirectory (omega arith) (omega arith)

  distinct : IsDistinct nat_eq (owned_blocks image)
  distinct = accepted CrossLinked (omega arith) (omega arith)

  sized : All (λ cell. length cell ≡ 32) (slots image)
  sized = slots_sized image is some

  left : Altered image (validated_disk image) (cells_left image) (all_but (length image) (owned_blocks image))
  unfolding validated_disk
  left =
      remapped image (with_cleared image (unclosed_slots image)) (cells_left image) (all_but (length image) (owned_blocks image)) is some
      (slots_cleared is_unclosed image is) (map_not_listed image distinct) (members-all_but (length image) (owned_blocks image))

  chains : All (HasItsChains image) (cells_left image)
  chains =
      All-cleared (HasItsChains image) is_unclosed (slots image)
      (λ cell long. HasItsChains-unused image (cleared cell) (is_used-cleared cell long)) sized (accepted NoChain (omega arith) (omega arith))

  kinds_known : All HasKind (cells_left image)
  kinds_known =
      All-cleared HasKind is_unclosed (slots image) (λ cell long. HasKind-unused (cleared cell) (is_used-cleared cell long)) sized
      (accepted UnknownKind (omega arith) (omega arith))

  fewer : (q : ℕ) → occurs q (flat_map (owned_by image) (cells_left image)) ≤ occurs q (flat_map (owned_by image) (slots image))
  fewer q = let e = occurs-cleared image is_unclosed q (slots image) sized in omega arith

  unfree : (q : ℕ) → 1 ≤ held_by image (cells_left image) q → set.contains (all_but (length image) (owned_blocks image)) q ≡ false
  unfree q held =
      let own = occurs-owned image q in
      let less = fewer q in
      contains-blocks_without (all_of (length image)) (owned_blocks image) q
      ∙ and_left (not (list_any (nat_eq q) (owned_blocks image))) (set.contains (all_of (length image)) q)
      (ap not (present-from_occurs q (owned_blocks image) (omega arith)))

  validated-keeps_sound : IsSound (validated_disk image)
  validated-keeps_sound =
      sound_after image (validated_disk image) (cells_left image) (all_but (length image) (owned_blocks image)) is some distinct left chains fewer
      kinds_known unfree

  same_owned : owned_blocks image ≡ view_blocks_owned (view image)
  unfolding owned_blocks view
  same_owned = ap (λ (files : List ℕ). map_block ∷ (directory image ++ files)) (sym (blocks-owned image (slots image)))

  validated-views : view (validated_disk image) ≡ validated_view (view image)
  unfolding view validated_view
  validated-views =
      view_after image (validated_disk image) (cells_left image) (all_but (length image) (owned_blocks image)) is some distinct left chains fewer
      ∙ ap₂ (λ (rows : List (Option FileView)) (owned : List ℕ). view_of (length image) (disk_field image) (disk_id image) (directory image) rows (all_but (length image) owned))
      (shown-cleared image is_unclosed (λ file. not file.closed) (λ cell. refl) (slots image) sized) same_owned

  validated-stays_image : IsImage (validated_disk image)
  validated-stays_image = left.is_image

pub validated-is_image : ValidatedIsImage
validated-is_image image is accepted = validated-stays_image image is accepted

pub validated-is_sound : ValidatedIsSound
validated-is_sound image is accepted = validated-keeps_sound image is accepted

pub validated-shows : ValidatedShows
validated-shows image is accepted = validated-views image is accepted
