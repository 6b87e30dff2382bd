use Rattle.std.proofs.Common.{ap, ◌∙◌, arith, length}
use Rattle.d64_files.specs.Slot.{is_used}
use Rattle.d64_survey.specs.Inspection.{is_whole_file, is_unwhole_file}
use Rattle.d64_survey.proofs.FileCounts.{none_counted, entry_count-is, whole_count-is, unwhole_count-is}
use Rattle.d64_survey.proofs.file_count.count_files.Goals as goal

pub loop-entry-init : goal.loop-entry-init
loop-entry-init c =
    let image = c.args.survey.now in
    let walk = c.into_iter-entry-iterator.ensures.into_iter_gives ∙ c.slots-entry-items.ensures.slots in
    let long = ap length c.into_iter-entry-iterator.ensures.into_iter_gives in
    let few = c.slots-entry-items.ensures.len in
    record {
      entries = none_counted is_used image _ _ walk (entry_count-is image);
      whole = none_counted (is_whole_file _) image _ _ walk (whole_count-is _);
      unwhole = none_counted (is_unwhole_file _) image _ _ walk (unwhole_count-is _);
      room_entries = omega arith;
      room_whole = omega arith;
      room_unwhole = omega arith;
    }
