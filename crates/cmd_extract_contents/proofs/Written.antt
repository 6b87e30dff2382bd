-- What is written of a slot.
use Rattle.std.proofs.Common.{◌≡◌, ℕ, Bool, true, false, cond, List, [], Option, Some, None, refl, sym, ap, ◌∙◌}
use Rattle.std.specs.Prelude.{is_some, IfSome}
use Rattle.std.specs.List.{slice_get}
use Rattle.std.specs.Option.{option_or, option_and_then}
use Rattle.d64_files.specs.Ownership.{roots_of}
use Rattle.d64_files.specs.Slot.{kind_of}
use Rattle.d64_files.specs.Reading.{file_refusal, file_content}
use Rattle.d64_survey.specs.Way.{way}
use Rattle.d64_inventory.specs.Contents.{content_along, content_of}
use Rattle.d64_inventory.specs.ContentLaws.{ContentIsWhatIsRead}
use Rattle.cmd_extract_contents.specs.Portions.{Portion, written_as, part_of, portion}
use Rattle.cmd_extract_contents.specs.ExtractLaws.{WrittenIsWhatIsRead, NothingOfUnclosed, PartsChangeNoContent}
use Rattle.cmd_extract_contents.specs.declared.extent.Extent.TheVariants.{Content, Part}

-- if parts are not wanted, what is written is the content
pub content_alone : (image : List (List ℕ)) (cell : List ℕ) → portion false image cell ≡ written_as Content (content_of image cell)
unfolding portion
content_alone image cell = nothing_more (written_as Content (content_of image cell))
  where
    nothing_more : (file : Option Portion) → option_or file None ≡ file
    nothing_more None = refl
    nothing_more (Some file) = refl

-- a content whose reading is not refused is written as such
by_refusal : (refused : Bool) (bytes : List ℕ) → written_as Content (cond refused None (Some bytes)) ≡ cond refused None (Some (record { bytes = bytes; extent = Content }))
by_refusal true bytes = refl
by_refusal false bytes = refl

pub written_is_read : ContentIsWhatIsRead → WrittenIsWhatIsRead
written_is_read law image cell used =
    content_alone image cell ∙ ap (written_as Content) (law image cell used) ∙ by_refusal (is_some (file_refusal image cell)) (file_content image cell)

pub nothing_of_unclosed : NothingOfUnclosed
nothing_of_unclosed image cell open_still =
    content_alone image cell
    ∙ ap (λ (closed : Bool). written_as Content (option_and_then (λ pair. content_along image (way image pair)) (slice_get (cond closed (roots_of (kind_of cell) cell) []) 0))) open_still

-- what is written without parts is found before parts are looked for
pub parts_change_nothing : PartsChangeNoContent
unfolding portion
parts_change_nothing image cell = by_content (written_as Content (content_of image cell)) (written_as Part (part_of image cell))
  where
    by_content : (file part : Option Portion) → IfSome (option_or file None) (λ (found : Portion). option_or file part ≡ Some found)
    by_content None part = tt
    by_content (Some file) part = refl

-- what is written, from whether there is a content, whether parts are wanted, and whether there is
-- a part
pub from_both : (image : List (List ℕ)) (cell : List ℕ) (with_parts wanted : Bool) (content part : Option (List ℕ)) → content ≡ content_of image cell → wanted ≡ with_parts → part ≡ part_of image cell
    → option_or (written_as Content content) (cond wanted (written_as Part part) None) ≡ portion with_parts image cell
unfolding portion
from_both image cell with_parts wanted content part is_content is_wanted is_part =
    ap (λ (c : Option (List ℕ)). option_or (written_as Content c) (cond wanted (written_as Part part) None)) is_content
    ∙ ap (λ (w : Bool). option_or (written_as Content (content_of image cell)) (cond w (written_as Part part) None)) is_wanted
    ∙ ap (λ (p : Option (List ℕ)). option_or (written_as Content (content_of image cell)) (cond with_parts (written_as Part p) None)) is_part

-- bytes that are there, and bytes that aren't
pub there : (is_there : Bool) (bytes : List ℕ) (found : Option (List ℕ)) → cond is_there (Some bytes) None ≡ found → is_there ≡ true → Some bytes ≡ found
there is_there bytes found e t = sym (ap (λ (b : Bool). cond b (Some bytes) None) t) ∙ e

pub not_there : (is_there : Bool) (bytes : List ℕ) (found : Option (List ℕ)) → cond is_there (Some bytes) None ≡ found → is_there ≡ false → None ≡ found
not_there is_there bytes found e t = sym (ap (λ (b : Bool). cond b (Some bytes) None) t) ∙ e
