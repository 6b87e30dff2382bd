use Rattle.std.proofs.Common.{◌≡◌, ℕ, List, Option, ap, ◌∙◌, length}
use Rattle.std.specs.Prelude.{option_map}
use Rattle.std.specs.List.{find}
use Rattle.d64_files.specs.Slot.{size_of, first_pair, field_of}
use Rattle.d64_survey.specs.Dump.{DumpView}
use Rattle.d64_survey.specs.Owners.{is_owned}
use Rattle.d64_survey.specs.Way.{way}
use Rattle.d64_survey.specs.declared.way_end.WayEnd.{WayEnd}
use Rattle.d64_scratched.specs.Scratched.{losses}
use Rattle.d64_inventory.specs.Contents.{digested_along}
use Rattle.d64_leftovers.specs.Deleted.{unreadable_count}
use Rattle.d64_leftovers.proofs.DeletedRows.{row_is}
use Rattle.d64_leftovers.proofs.deleted_files.DeletedFiles.row.Goals as goal

pub returns-clause-row : goal.returns-clause-row
returns-clause-row c =
    let dump = c.args.self.now in
    let bytes = c.args.entry.now.bytes in
    let slot = c.args.entry.now.slot in
    let codes = option_map (λ codes. codes.now) c.codes.result in
    let image_is : c.self.inside.inspection.now.image ≡ dump.image = ap (λ (d : DumpView). d.image) c.self.view_is in
    let ways : (c.walk.new.blocks, c.walk.result) ≡ way dump.image (first_pair bytes) =
    c.walk.ensures.way ∙ ap (way c.image.result.now) c.first_pair-track.ensures ∙ ap (λ (i : List (List ℕ)). way i (first_pair bytes)) (c.image.ensures ∙ image_is) in
    let blocks_are : c.as_slice-blocks.result.now ≡ (way dump.image (first_pair bytes)).0 = c.as_slice-blocks.ensures.value ∙ ap (λ (w : List ℕ × WayEnd). w.0) ways in
    row_is dump (slot, bytes) _ (record {
      slot = c.place.ensures ∙ c.slot.ensures;
      field = c.field_of.ensures;
      size = c.blocks-2.ensures;
      first = c.first_pair-track.ensures;
      blocks = ap (λ (bs : List ℕ). length bs) blocks_are;
      content =
          c.content_along.ensures.content
          ∙ ap (λ (d : DumpView). digested_along d.image (way d.image (c.first_pair-track.result.0, c.first_pair-track.result.1))) c.requires
          ∙ ap (λ (p : ℕ × ℕ). digested_along dump.image (way dump.image p)) c.first_pair-track.ensures;
      losses =
          c.losses.ensures
          ∙ ap (λ (i : List (List ℕ)). losses i codes slot bytes) c.self.invariant
          ∙ ap (λ (cs : Option (List ℕ)). losses c.self.inside.inspection.now.image cs slot bytes) c.codes.ensures
          ∙ ap (λ (d : DumpView). losses d.image d.codes slot bytes) c.self.view_is;
      reused =
          c.first_owned.ensures
          ∙ ap (λ (i : List (List ℕ)). find (is_owned i) c.as_slice-blocks.result.now) (c.survey.ensures ∙ image_is)
          ∙ ap (find (is_owned dump.image)) blocks_are;
      read_errors =
          c.unreadable_count.ensures
          ∙ ap (λ (cs : Option (List ℕ)). unreadable_count cs c.as_slice-blocks.result.now) (c.codes-2.ensures ∙ ap (λ (d : DumpView). d.codes) c.self.view_is)
          ∙ ap (unreadable_count dump.codes) blocks_are;
    })
