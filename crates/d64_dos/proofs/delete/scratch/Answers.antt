use Rattle.std.proofs.Common.{ℕ, List, length, sym, ap, ◌∙◌, subst}
use Rattle.std.specs.List.{flat_map}
use Rattle.d64_image.specs.BlockSet.{MembersAreBelow}
use Rattle.d64_map.specs.Map.{free_blocks}
use Rattle.d64_files.specs.Directory.{slot_owns}
use Rattle.d64_effects.specs.Clear.{with_cleared, with_freed}
use Rattle.d64_effects.specs.Delete.{scratched_slots}
use Rattle.d64_effects.specs.View.{IsSound}
use Rattle.d64_effects.proofs.Lengths.{length-with_cleared}
use Rattle.d64_effects.proofs.ScratchedDisks.{members}
use Rattle.d64_dos.proofs.ScratchedFiles.{none_scratched, some_scratched}
use Rattle.d64_dos.proofs.delete.scratch.Goals as goal

pub returns-then-is_empty-clause-image : goal.returns-then-is_empty-clause-image
returns-then-is_empty-clause-image c =
    let patterns = c.args.patterns.now in
    none_scratched c.args.image.now patterns c.find_scratched-found.result.places.items
    (c.find_scratched-found.ensures.places ∙ ap (λ (image : List (List ℕ)). scratched_slots image patterns) c.in_ok-directory.ensures.image) c.if-is_empty.ensures

pub returns-clause-image : goal.returns-clause-image
returns-clause-image c =
    let image = c.args.image.now in
    let patterns = c.args.patterns.now in
    let found = c.find_scratched-found in
    some_scratched image patterns c.clear_slots.new.image c.put_map.new.image found.result.places.items found.result.free
    (found.ensures.places ∙ ap (λ (one : List (List ℕ)). scratched_slots one patterns) c.in_ok-directory.ensures.image) c.if-is_empty.ensures
    (c.in_ok-clear_slots.ensures.cleared ∙ ap (with_cleared image) c.as_slice.ensures.value)
    (found.ensures.free
    ∙ ap (λ (one : List (List ℕ)). with_freed (free_blocks one) (flat_map (slot_owns one) (scratched_slots one patterns))) c.in_ok-directory.ensures.image)
    c.in_ok-put_map.ensures.written

-- what is free without the files are blocks of the image
pub put_map-requires : goal.put_map-requires
put_map-requires c =
    let image = c.args.image.now in
    let patterns = c.args.patterns.now in
    let found = c.find_scratched-found in
    let sound : IsSound image = c.in_ok-directory.ensures.sound in
    let free = found.ensures.free
    ∙ ap (λ (one : List (List ℕ)). with_freed (free_blocks one) (flat_map (slot_owns one) (scratched_slots one patterns))) c.in_ok-directory.ensures.image in
    let long = ap length c.in_ok-clear_slots.ensures.cleared ∙ length-with_cleared image c.as_slice.result.now in
    record {
      members = subst (λ (n : ℕ). MembersAreBelow n found.result.free) (sym long)
          (subst (MembersAreBelow (length image)) (sym free) (members image patterns c.known_image.ensures.image sound));
    }
