-- what disks list of their files after each command
use Rattle.std.proofs.Common.{◌≡◌, ℕ, [], length, map, Some, None, ap, ◌∙◌}
use Rattle.std.specs.Prelude.{slice_get, option_map}
use Rattle.std.proofs.lemmas.Option.{slice_get-map, slice_get-get_or}
use Rattle.d64_files.specs.Directory.{slots}
use Rattle.d64_effects.specs.Contents.{names_and_contents}
use Rattle.d64_effects.specs.ContentsAfter.{list_with, new_row}
use Rattle.d64_effects.specs.ContentsLaws.{FormattedDiskHasNoFiles, WrittenDiskLists, ScratchedDiskLists, RenamedDiskLists, NamedDiskLists, ValidatedDiskLists, UndeletedDiskLists}
use Rattle.d64_effects.specs.Undelete.{cell_at}
use Rattle.d64_effects.specs.View.{view, slot_view}
use Rattle.d64_effects.specs.ViewAfter.{first_vacant}
use Rattle.d64_effects.proofs.ContentSteps.{formatted-lists_nothing, written-lists_the_file, scratched-lists_the_others, renamed-lists_the_name, named-lists_the_same, validated-lists_the_closed, undeleted-lists_the_file}
use Rattle.d64_effects.proofs.FormattedDisks.{view-formatted_disk}
use Rattle.d64_effects.proofs.Frames.{slot_view-unused}
use Rattle.d64_effects.proofs.NamedDisks.{named-shows}
use Rattle.d64_effects.proofs.RenamedDisks.{renamed-shows}
use Rattle.d64_effects.proofs.ScratchedDisks.{scratched-shows}
use Rattle.d64_effects.proofs.TakenBlocks.{takes}
use Rattle.d64_effects.proofs.UndeletedDisks.{undeleted-shows}
use Rattle.d64_effects.proofs.ValidatedDisks.{validated-shows}
use Rattle.d64_effects.proofs.WrittenDisks.{written-shows}

pub formatted-disk_lists : FormattedDiskHasNoFiles
formatted-disk_lists count name id size named two = ap names_and_contents (view-formatted_disk count size name id named two) ∙ formatted-lists_nothing count name id

-- a file takes as many blocks as its bytes need
pub written-disk_lists : WrittenDiskLists
unfolding view
written-disk_lists image name kind bytes is named writable small sound fits =
    ap names_and_contents (written-shows image name kind bytes is named writable small sound fits)
    ∙ written-lists_the_file (view image) name kind bytes named
    ∙ ap (λ (blocks : ℕ). list_with (names_and_contents (view image)) (first_vacant (view image)) (new_row name kind bytes blocks))
    (takes image (length bytes) fits).count

pub scratched-disk_lists : ScratchedDiskLists
scratched-disk_lists image patterns is sound =
    ap names_and_contents (scratched-shows image patterns is sound) ∙ scratched-lists_the_others (view image) patterns

pub renamed-disk_lists : RenamedDiskLists
renamed-disk_lists image old new is named sound =
    ap names_and_contents (renamed-shows image old new is named sound) ∙ renamed-lists_the_name (view image) old new named

pub named-disk_lists : NamedDiskLists
named-disk_lists image name id is named two sound =
    ap names_and_contents (named-shows image name id is named two sound) ∙ named-lists_the_same (view image) name id

pub validated-disk_lists : ValidatedDiskLists
validated-disk_lists image is accepted =
    ap names_and_contents (validated-shows image is accepted) ∙ validated-lists_the_closed (view image)

pub undeleted-disk_lists : UndeletedDiskLists
unfolding view
undeleted-disk_lists image slot kind is sound writable can =
    let vacant : slice_get (map (slot_view image) (slots image)) slot ≡ Some None =
    slice_get-map (slot_view image) (slots image) slot ∙ ap (option_map (slot_view image)) (slice_get-get_or (slots image) slot [] can.there)
    ∙ ap Some (slot_view-unused image (cell_at image slot) can.unused) in
    ap names_and_contents (undeleted-shows image slot kind is sound writable can)
    ∙ undeleted-lists_the_file image (view image) slot kind vacant
