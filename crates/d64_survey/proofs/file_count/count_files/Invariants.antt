use Rattle.std.proofs.Common.{◌≡◌, ◌+◌, ◌*◌, ◌≤◌, length}
use Rattle.std.specs.Prelude.{count_by, option_map}
use Rattle.d64_image.specs.declared.block.TheConstants.{BLOCKS}
use Rattle.d64_files.specs.Slot.{EntryView, is_used}
use Rattle.d64_survey.specs.Inspection.{is_whole_file, is_unwhole_file, entry_count, whole_count, unwhole_count}
use Rattle.d64_survey.proofs.file_count.count_files.Given as goal

abbrev pub invariant-loop-entry : goal.invariant-loop-entry
invariant-loop-entry l = record {
  entries : l.counts.entries + count_by (λ (entry : EntryView). is_used entry.bytes) l.entry-iterator ≡ entry_count l.survey;
  whole : l.counts.whole + count_by (λ (entry : EntryView). is_whole_file (record { image = l.survey; codes = option_map (λ codes. codes.now) l.codes }) entry.bytes) l.entry-iterator
      ≡ whole_count (record { image = l.survey; codes = option_map (λ codes. codes.now) l.codes });
  unwhole : l.counts.unwhole + count_by (λ (entry : EntryView). is_unwhole_file (record { image = l.survey; codes = option_map (λ codes. codes.now) l.codes }) entry.bytes) l.entry-iterator
      ≡ unwhole_count (record { image = l.survey; codes = option_map (λ codes. codes.now) l.codes });
  room_entries : l.counts.entries + length l.entry-iterator ≤ 8 * BLOCKS;
  room_whole : l.counts.whole + length l.entry-iterator ≤ 8 * BLOCKS;
  room_unwhole : l.counts.unwhole + length l.entry-iterator ≤ 8 * BLOCKS;
}
