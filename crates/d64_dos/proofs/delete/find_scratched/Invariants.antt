use Rattle.std.proofs.Common.{◌≡◌, ◌+◌, ◌*◌, ◌≤◌, ◌++◌, length}
use Rattle.std.specs.List.{flat_map}
use Rattle.d64_image.specs.declared.block.TheConstants.{BLOCKS}
use Rattle.d64_map.specs.Map.{free_blocks}
use Rattle.d64_files.specs.Directory.{slot_owns}
use Rattle.d64_effects.specs.Clear.{with_freed}
use Rattle.d64_effects.specs.Delete.{is_scratched_slot, scratched_slots}
use Rattle.d64_dos.proofs.ClearedSlots.{passing}
use Rattle.d64_dos.proofs.delete.find_scratched.Given as goal

abbrev pub invariant-loop-entry : goal.invariant-loop-entry
invariant-loop-entry l = record {
  places : l.places.items ++ passing (is_scratched_slot l.patterns) l.entry-iterator ≡ scratched_slots l.directory l.patterns;
  free :
      with_freed l.free (flat_map (slot_owns l.directory) (passing (is_scratched_slot l.patterns) l.entry-iterator))
      ≡ with_freed (free_blocks l.directory) (flat_map (slot_owns l.directory) (scratched_slots l.directory l.patterns));
  room : length l.places.items + length l.entry-iterator ≤ 8 * BLOCKS;
}
