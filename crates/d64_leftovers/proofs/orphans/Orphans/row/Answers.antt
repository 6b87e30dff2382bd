use Rattle.std.proofs.Common.{◌≡◌, ℕ, List, Option, ap, ap₂, ◌∙◌, length}
use Rattle.std.specs.Prelude.{option_map}
use Rattle.d64_image.specs.Block.{pair_at}
use Rattle.d64_survey.specs.Dump.{DumpView}
use Rattle.d64_survey.specs.Way.{way}
use Rattle.d64_survey.specs.declared.way_end.WayEnd.{WayEnd}
use Rattle.d64_inventory.specs.Contents.{digested_along}
use Rattle.d64_leftovers.specs.Deleted.{unreadable_count}
use Rattle.d64_leftovers.specs.Orphans.{old_slot, old_slot_of}
use Rattle.d64_leftovers.proofs.OrphanRows.{row_is}
use Rattle.d64_leftovers.proofs.orphans.Orphans.row.Goals as goal

pub returns-clause-row : goal.returns-clause-row
returns-clause-row c =
    let dump = c.args.self.now in
    let head = c.args.head in
    let image_is : c.self.inside.inspection.now.image ≡ dump.image = ap (λ (d : DumpView). d.image) c.self.view_is in
    let pair : (c.track.result, c.sector.result) ≡ pair_at head = ap₂ (λ (t s : ℕ). (t, s)) c.track.ensures.pair c.sector.ensures.pair in
    let pair_too : (c.track-2.result, c.sector-2.result) ≡ pair_at head = ap₂ (λ (t s : ℕ). (t, s)) c.track-2.ensures.pair c.sector-2.ensures.pair in
    let ways : (c.walk.new.blocks, c.walk.result) ≡ way dump.image (pair_at head) =
    c.walk.ensures.way ∙ ap (way c.image.result.now) pair ∙ ap (λ (i : List (List ℕ)). way i (pair_at head)) (c.image.ensures ∙ image_is) in
    let blocks_are : c.as_slice-blocks.result.now ≡ (way dump.image (pair_at head)).0 = c.as_slice-blocks.ensures.value ∙ ap (λ (w : List ℕ × WayEnd). w.0) ways in
    row_is dump head _ (record {
      old = c.old_slot.ensures;
      blocks = ap (λ (bs : List ℕ). length bs) blocks_are;
      content =
          c.content_along.ensures.content
          ∙ ap (λ (d : DumpView). digested_along d.image (way d.image (c.track-2.result, c.sector-2.result))) c.requires
          ∙ ap (λ (p : ℕ × ℕ). digested_along dump.image (way dump.image p)) pair_too;
      read_errors =
          c.unreadable_count.ensures
          ∙ ap (λ (cs : Option (List ℕ)). unreadable_count cs c.as_slice-blocks.result.now) (c.codes.ensures ∙ ap (λ (d : DumpView). d.codes) c.self.view_is)
          ∙ ap (unreadable_count dump.codes) blocks_are;
    })
