use Rattle.std.proofs.Common.{◌≡◌, ◌+◌, ◌*◌, ◌≤◌, length}
use Rattle.std.specs.List.{count_by}
use Rattle.d64_files.specs.Slot.{EntryView, is_used}
use Rattle.d64_image.specs.declared.block.TheConstants.{BLOCKS}
use Rattle.script_advice.specs.Found.{file_count}
use Rattle.script_advice.proofs.found.file_count.Given as goal

-- the files so far are counted
abbrev pub invariant-loop-entry : goal.invariant-loop-entry
invariant-loop-entry l = record {
  counted : l.count + count_by (λ (entry : EntryView). is_used entry.bytes) l.entry-iterator ≡ file_count l.image;
  room : l.count + length l.entry-iterator ≤ 8 * BLOCKS;
}
