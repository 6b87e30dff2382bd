use Rattle.std.proofs.Common.{◌≡◌, ◌++◌, ◌-◌, ◌≤◌, take, filter}
use Rattle.std.specs.List.{flat_map, enumerate_from}
use Rattle.d64_files.specs.Slot.{EntryView, is_used}
use Rattle.out_picture.specs.Legend.{placed_row, legend_file_rows, shown_files}
use Rattle.out_picture.proofs.legend.push_file_rows.Given as goal

abbrev pub invariant-loop-entry : goal.invariant-loop-entry
invariant-loop-entry l =
    (l.out.items
    ++ flat_map (placed_row l.inspection.image) (take (shown_files - l.place) (enumerate_from l.place (filter (λ (entry : EntryView). is_used entry.bytes) l.entry-iterator)))
    ≡ l.initial.out.items ++ legend_file_rows l.inspection.image)
    × (l.place ≤ shown_files)
