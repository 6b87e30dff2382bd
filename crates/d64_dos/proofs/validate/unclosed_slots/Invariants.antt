use Rattle.std.proofs.Common.{◌≡◌, ◌+◌, ◌*◌, ◌≤◌, ◌++◌, length}
use Rattle.d64_image.specs.declared.block.TheConstants.{BLOCKS}
use Rattle.d64_effects.specs.Validate.{is_unclosed, unclosed_slots}
use Rattle.d64_dos.proofs.ClearedSlots.{passing}
use Rattle.d64_dos.proofs.validate.unclosed_slots.Given as goal

abbrev pub invariant-loop-entry : goal.invariant-loop-entry
invariant-loop-entry l = record {
  places : l.places.items ++ passing is_unclosed l.entry-iterator ≡ unclosed_slots l.directory;
  room : length l.places.items + length l.entry-iterator ≤ 8 * BLOCKS;
}
