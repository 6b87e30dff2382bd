use Rattle.std.proofs.Common.{◌≡◌, ℕ, ◌+◌, ◌<◌, List, length, get_or, drop, sym, ap, ◌∙◌, subst, arith}
use Rattle.std.specs.Prelude.{fold}
use Rattle.std.proofs.lemmas.List.{drop_more}
use Rattle.d64_files.specs.Clearing.{with_cleared_slot}
use Rattle.d64_dos.proofs.ClearedSlots.{HasSlotsOf, one_more_cleared}
use Rattle.d64_dos.proofs.delete.clear_slots.Goals as goal

pub loop-place-preserved : goal.loop-place-preserved
loop-place-preserved c =
    let image = c.args.image.now in
    let places = c.args.places.now in
    let k = c.loop-place.place-index in
    let slot : ℕ = get_or places k 0 in
    let within : k < length places = omega arith in
    let next : c.clear_slot.new.image ≡ with_cleared_slot c.loop-place.image slot =
    c.in_ok-clear_slot.ensures.cleared ∙ ap (with_cleared_slot c.loop-place.image) c.at.ensures in
    record {
      slots = subst (HasSlotsOf image) (sym next)
          (one_more_cleared c.clearing_keeps_the_directory.ensures.image c.clearing_keeps_the_directory.ensures.slots image c.loop-place.image slot c.loop-place.invariant.slots
          (c.requires k 0 within));
      left =
          ap (λ (one : List (List ℕ)). fold with_cleared_slot one (drop (k + 1) places)) next
          ∙ ap (fold with_cleared_slot c.loop-place.image) (sym (drop_more places k 0 within))
          ∙ c.loop-place.invariant.left;
      back = (c.clear_slot.ensures.back.0 ∙ c.loop-place.invariant.back.0, λ h. c.clear_slot.ensures.back.1 (c.loop-place.invariant.back.1 h));
    }
