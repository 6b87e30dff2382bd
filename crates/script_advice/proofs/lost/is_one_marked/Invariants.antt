use Rattle.std.proofs.Common.{◌≡◌, false}
use Rattle.std.specs.List.{list_any}
use Rattle.std.specs.Option.{option_map_or}
use Rattle.d64_files.specs.Slot.{EntryView}
use Rattle.script_advice.specs.Found.{listed_slots}
use Rattle.script_advice.specs.Lost.{is_marked_used, loss_of_entry}
use Rattle.script_advice.proofs.lost.is_one_marked.Given as goal

-- none of the entries before is such a file's
abbrev pub invariant-loop-entry : goal.invariant-loop-entry
invariant-loop-entry l =
    list_any (λ (entry : EntryView). option_map_or is_marked_used (loss_of_entry l.survey l.name entry) false) l.entry-iterator
    ≡ list_any (λ (entry : EntryView). option_map_or is_marked_used (loss_of_entry l.survey l.name entry) false) (listed_slots l.survey)
