use Rattle.std.proofs.Common.{ℕ, List, ap, ap₂, ◌∙◌}
use Rattle.std.specs.Ordering.{nat_cmp}
use Rattle.std.specs.List.{flat_map}
use Rattle.std.specs.FinSet as set
use Rattle.d64_map.specs.Map.{free_blocks}
use Rattle.d64_files.specs.Directory.{slot_owns}
use Rattle.d64_effects.specs.Clear.{with_freed}
use Rattle.d64_effects.specs.Delete.{is_scratched_slot}
use Rattle.d64_dos.proofs.ClearedSlots.{begins}
use Rattle.d64_dos.proofs.delete.find_scratched.Goals as goal

pub loop-entry-init : goal.loop-entry-init
loop-entry-init c =
    let directory = c.args.directory.now in
    let start = begins (is_scratched_slot c.args.patterns.now) directory c.new-places.result.items c.slots-entry-items.result c.into_iter-entry-iterator.result
    c.new-places.ensures c.into_iter-entry-iterator.ensures.into_iter_gives c.slots-entry-items.ensures.slots c.slots-entry-items.ensures.len in
    let free = c.free_set-free.ensures ∙ ap free_blocks c.image-image.ensures in
    record {
      places = start.taken;
      free = ap₂ (λ (free : set.FinSet nat_cmp) (numbers : List ℕ). with_freed free (flat_map (slot_owns directory) numbers)) free start.passes;
      room = start.room;
    }
