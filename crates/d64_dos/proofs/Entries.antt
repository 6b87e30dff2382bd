-- the entry of a new file, in the slot that is there for it
use Rattle.std.proofs.Common.{◌≡◌, ℕ, ◌+◌, ◌*◌, ◌<◌, not, length, List, [], Option, Some, None, option_to_list, refl, sym, ap, ap₂, ◌∙◌, subst}
use Rattle.std.specs.Prelude.{MatchOption}
use Rattle.std.proofs.lemmas.List.Quantifiers.{position-Some}
use Rattle.d64_map.specs.Map.{free_blocks}
use Rattle.d64_map.proofs.Plans.{dir_pick}
use Rattle.d64_files.specs.Directory.{slots}
use Rattle.d64_files.specs.Writing.{with_bytes, first_unused, dir_last, with_entry, with_growth}
use Rattle.d64_files.specs.Slot.{is_used}
use Rattle.d64_files.proofs.SlotLists.{slot_block-within}
use Rattle.d64_effects.proofs.TakenBlocks.{free_is_block}
use Rattle.d64_effects.specs.Write.{grown_by, directory_grown, with_entry_in, with_new_entry}
use Rattle.d64_dos.specs.Space.{IsPlace, HoldsSlot, grown_at}
use Rattle.d64_dos.specs.declared.write.Place.{Place}
use Rattle.d64_dos.specs.declared.write.Place.TheVariants.{Vacant, New}

-- the blocks that the directory takes for one more entry, if this slot is the first unused one
grown_for : (image : List (List ℕ)) (vacant : Option ℕ) (block index : ℕ) → first_unused (slots image) ≡ vacant
    → MatchOption vacant ⊥ (HoldsSlot image block index) → directory_grown image ≡ []
grown_for image None block index e is = absurd is
grown_for image (Some slot) block index e is = ap (grown_by (free_blocks image) (dir_last image)) e

-- the blocks that the directory takes are those of the place
pub directory_grown-is : (image : List (List ℕ)) (place : Place) → IsPlace image (free_blocks image) place → directory_grown image ≡ grown_at place
directory_grown-is image (Vacant block index) is = grown_for image (first_unused (slots image)) block index refl is
directory_grown-is image (New last block) is =
    ap (grown_by (free_blocks image) (dir_last image)) is.0 ∙ ap option_to_list is.2

-- the new entry goes into the unused slot
entered_vacant : (image : List (List ℕ)) (vacant : Option ℕ) (block index : ℕ) (entry : List ℕ) → first_unused (slots image) ≡ vacant
    → MatchOption vacant ⊥ (HoldsSlot image block index) → with_new_entry image entry ≡ with_bytes image block (32 * index + 2) entry
unfolding with_new_entry with_entry
entered_vacant image None block index entry e is = absurd is
entered_vacant image (Some slot) block index entry e is =
    ap (λ (vacant : Option ℕ). with_entry_in image vacant (directory_grown image) entry) e
    ∙ ap₂ (λ (b i : ℕ). with_bytes image b (32 * i + 2) entry) (sym is.0) (sym is.1)

pub vacant_place : (image : List (List ℕ)) (place : Place) (block index : ℕ) (entry : List ℕ) → place ≡ Vacant block index
    → IsPlace image (free_blocks image) place → with_new_entry image entry ≡ with_bytes image block (32 * index + 2) entry
vacant_place image place block index entry e at =
    entered_vacant image (first_unused (slots image)) block index entry refl (subst (IsPlace image (free_blocks image)) e at)

-- or into the first slot of the directory's new block
pub new_place : (image : List (List ℕ)) (place : Place) (last block : ℕ) (entry : List ℕ) → place ≡ New last block
    → IsPlace image (free_blocks image) place → with_new_entry image entry ≡ with_bytes (with_growth image block) block 2 entry
unfolding with_new_entry
new_place image place last block entry e at =
    let is : IsPlace image (free_blocks image) (New last block) = subst (IsPlace image (free_blocks image)) e at in
    ap (λ (vacant : Option ℕ). with_entry_in image vacant (directory_grown image) entry) is.0
    ∙ ap (λ (taken : List ℕ). with_entry_in image None taken entry) (directory_grown-is image (New last block) is)

-- the directory's last block, if one is taken after it
pub last_of_place : (image : List (List ℕ)) (place : Place) (last block : ℕ) → place ≡ New last block
    → IsPlace image (free_blocks image) place → last ≡ dir_last image
last_of_place image place last block e at =
    let is : IsPlace image (free_blocks image) (New last block) = subst (IsPlace image (free_blocks image)) e at in is.1

-- the image has the block that the directory takes
pub new_of_place : (image : List (List ℕ)) (place : Place) (last block : ℕ) → place ≡ New last block
    → IsPlace image (free_blocks image) place → block < length image
new_of_place image place last block e at =
    let is : IsPlace image (free_blocks image) (New last block) = subst (IsPlace image (free_blocks image)) e at in
    free_is_block image block (dir_pick (free_blocks image) (dir_last image) (Some block) is.2).0

-- and the block of an unused slot
vacant_held : (image : List (List ℕ)) (vacant : Option ℕ) (block index : ℕ) → first_unused (slots image) ≡ vacant
    → MatchOption vacant ⊥ (HoldsSlot image block index) → block < length image
vacant_held image None block index e is = absurd is
vacant_held image (Some slot) block index e is =
    subst (λ (b : ℕ). b < length image) (sym is.0) (slot_block-within image slot (position-Some (λ cell. not (is_used cell)) (slots image) slot [] e).0)

pub vacant_of_place : (image : List (List ℕ)) (place : Place) (block index : ℕ) → place ≡ Vacant block index
    → IsPlace image (free_blocks image) place → block < length image
vacant_of_place image place block index e at =
    vacant_held image (first_unused (slots image)) block index refl (subst (IsPlace image (free_blocks image)) e at)
