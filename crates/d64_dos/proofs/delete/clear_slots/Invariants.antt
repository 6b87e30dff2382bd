use Rattle.std.proofs.Common.{◌≡◌, drop}
use Rattle.std.specs.Prelude.{fold}
use Rattle.d64_image.specs.Patch.{StillRestores}
use Rattle.d64_files.specs.Clearing.{with_cleared_slot}
use Rattle.d64_effects.specs.Clear.{with_cleared}
use Rattle.d64_dos.proofs.ClearedSlots.{HasSlotsOf}
use Rattle.d64_dos.proofs.delete.clear_slots.Given as goal

abbrev pub invariant-loop-place : goal.invariant-loop-place
invariant-loop-place l = record {
  slots : HasSlotsOf l.fn.image l.image;
  left : fold with_cleared_slot l.image (drop l.place-index l.places) ≡ with_cleared l.fn.image l.places;
  back : StillRestores l.fn.image l.fn.patch l.image l.patch;
}
