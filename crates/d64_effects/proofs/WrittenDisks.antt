-- what a written disk is, and what it shows
use Rattle.std.proofs.Common.{◌≡◌, ℕ, Bool, true, false, not, cond, List, length, map, Option, Some, None, refl, sym, ap, ◌∙◌}
use Rattle.std.specs.Prelude.{position}
use Rattle.d64_map.specs.Map.{free_blocks}
use Rattle.d64_files.specs.Directory.{slots}
use Rattle.d64_files.specs.Slot.{is_used}
use Rattle.d64_files.specs.Writing.{first_unused, dir_last}
use Rattle.d64_effects.specs.Laws.{WrittenIsImage, WrittenIsSound, WrittenShows}
use Rattle.d64_effects.specs.View.{FileView, view, slot_view, file_view}
use Rattle.d64_effects.specs.ViewAfter.{is_vacant, slots_with, view_with, new_file, written_view}
use Rattle.d64_effects.specs.Write.{grown_by, directory_grown, written_disk}
use Rattle.d64_effects.proofs.NewOwners.{sound_after, shown_rows}
use Rattle.d64_effects.proofs.Rows.{with_row, position-map}
use Rattle.d64_effects.proofs.TakenBlocks.{takes, grows}
use Rattle.d64_effects.proofs.WrittenImages.{taken_for, written_leaves}

-- a written disk is an image
pub written-is_image : WrittenIsImage
written-is_image image name kind bytes is named small sound fits = let left = written_leaves image name kind bytes is named small sound fits in left.is_image

-- it is sound
pub written-is_sound : WrittenIsSound
written-is_sound image name kind bytes is named writable small sound fits =
    sound_after image (written_disk image name kind bytes) name kind bytes (taken_for image bytes) (directory_grown image) sound named.short writable.0
    (takes image (length bytes) fits) (grows image) (written_leaves image name kind bytes is named small sound fits)

-- a slot is vacant in the view if it isn't used
vacant_shown : (image : List (List ℕ)) (cell : List ℕ) → is_vacant (slot_view image cell) ≡ not (is_used cell)
unfolding slot_view
vacant_shown image cell = by_use (is_used cell) (file_view image cell)
  where
    by_use : (used : Bool) (file : FileView) → is_vacant (cond used (Some file) None) ≡ not used
    by_use true file = refl
    by_use false file = refl

-- so the first vacant one is the first unused one
first_vacant_shown : (image : List (List ℕ)) → position is_vacant (map (slot_view image) (slots image)) ≡ first_unused (slots image)
first_vacant_shown image = position-map (slot_view image) is_vacant (λ cell. not (is_used cell)) (slots image) (vacant_shown image)

-- slots of a view with one more are rows with one more
slots_with-rows : (rows : List (Option FileView)) (place : Option ℕ) (file : FileView) → with_row rows place (Some file) None ≡ slots_with rows place file
slots_with-rows rows (Some place) file = refl
slots_with-rows rows None file = refl

-- it shows what it should
pub written-shows : WrittenShows
unfolding view written_view
written-shows image name kind bytes is named writable small sound fits =
    let left = written_leaves image name kind bytes is named small sound fits in
    let taken : List ℕ = taken_for image bytes in
    let file : FileView = new_file name kind bytes taken in
    let rows : List (Option FileView) = map (slot_view image) (slots image) in
    let shown =
    shown_rows image (written_disk image name kind bytes) name kind bytes taken (directory_grown image) sound named.short writable.0
    (takes image (length bytes) fits) (grows image) left
    ∙ slots_with-rows rows (first_unused (slots image)) file in
    (λ i. record { count = left.long i; name = left.name i; id = left.id i; directory = left.blocks i; slots = shown i; free = left.free i })
    ∙ ap (λ (place : Option ℕ). view_with (view image) place file taken (grown_by (free_blocks image) (dir_last image) place)) (sym (first_vacant_shown image))
