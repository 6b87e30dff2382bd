use Rattle.std.proofs.Common.{ℕ, List, [], ◌∷◌, ◌++◌, ◌*◌, ◌<◌, length, sym, ap, ◌∙◌, subst, arith}
use Rattle.std.specs.Prelude.{All}
use Rattle.std.specs.List.{flat_map}
use Rattle.d64_image.specs.declared.block.TheConstants.{BLOCKS}
use Rattle.d64_files.specs.Chain.{LieIn}
use Rattle.d64_files.specs.Slot.{EntryView}
use Rattle.d64_files.specs.Directory.{slots_in, entries}
use Rattle.d64_files.proofs.SlotLists.{length-entries}
use Rattle.d64_survey.specs.Owners.{owned_as, slot_owners}
use Rattle.d64_survey.specs.declared.owner.Owner.TheVariants.{Map, Directory}
use Rattle.d64_survey.specs.declared.way_end.WayEnd.{WayEnd}
use Rattle.d64_survey.proofs.OwnerLists.{then_added, all_claimed, all_listed, numbers_below}
use Rattle.d64_survey.proofs.survey.Survey.of.Goals as goal

pub along-requires : goal.along-requires
along-requires c = subst (LieIn c.args.image.now) (sym c.copy.ensures) c.walk-end.ensures.held

pub claim_files-requires-clause-numbers : goal.claim_files-requires-clause-numbers
claim_files-requires-clause-numbers c =
    let cells = slots_in c.args.image.now c.copy.result in
    let few = c.along.ensures.len in
    let same = ap length c.along.ensures.slots in
    subst (All (λ (entry : EntryView). entry.slot < 8 * BLOCKS)) (sym c.along.ensures.slots)
    (numbers_below c.args.image.now (8 * BLOCKS) cells (omega (arith, length-entries c.args.image.now cells)))

pub invariant_of-result : goal.invariant_of-result
invariant_of-result c =
    let image = c.args.image.now in
    let directory = ap (λ (w : List ℕ × WayEnd). w.0) c.walk-end.ensures.way in
    let of_map = (c.map_block.result, Map) ∷ [] in
    let of_directory = owned_as Directory c.as_slice.result.now in
    let of_files = flat_map (λ (entry : EntryView). slot_owners image (entry.slot, entry.bytes)) c.along.result in
    let first = c.empty-owners.result in
    let added = then_added first c.claim_all.new.self c.claim_files.new.self (of_map ++ of_directory) of_files
    (then_added first c.claim.new.self c.claim_all.new.self of_map of_directory c.claim.ensures.listed c.claim_all.ensures.listed) c.claim_files.ensures in
    let all = all_claimed image c.map_block.result c.as_slice.result.now c.along.result c.map_block.ensures (c.as_slice.ensures.value ∙ directory)
    (c.along.ensures.slots ∙ ap (λ (bs : List ℕ). entries image (slots_in image bs)) (c.copy.ensures ∙ directory)) in (
      directory,
      ap (λ (w : List ℕ × WayEnd). w.1) c.walk-end.ensures.way,
      c.walk-end.ensures.held,
      all_listed image first c.claim_files.new.self ((of_map ++ of_directory) ++ of_files) c.empty-owners.ensures.listed added all,
    )
