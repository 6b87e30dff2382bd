-- The rows of files alone.
use Rattle.std.proofs.Common.{◌≡◌, ℕ, Bool, true, false, cond, List, [], ◌∷◌, map, Some, None, refl, ap, ◌∙◌, append-nil}
use Rattle.std.specs.Prelude.{filter}
use Rattle.std.specs.List.{cons_option, filter_map}
use Rattle.d64_files.specs.Directory.{numbered_slots}
use Rattle.d64_files.specs.Slot.{is_used}
use Rattle.d64_survey.specs.Dump.{DumpView}
use Rattle.d64_survey.specs.Owners.{way_slots}
use Rattle.d64_inventory.specs.Rows.{file_row_of, rows as file_rows}
use Rattle.d64_leftovers.specs.Rows.{row_of_slot, wanted_rows, FilesAloneAreTheInventory}
use Rattle.d64_leftovers.specs.declared.row.ListedRow.{ListedRow}
use Rattle.d64_leftovers.specs.declared.row.ListedRow.TheVariants.{File}
use Rattle.d64_leftovers.specs.declared.selection.Selection.{Selection}

abbrev alone : Selection
alone = record { files = true; deleted = false; orphans = false }

rows_of_files : (dump : DumpView) (slots : List (ℕ × List ℕ)) → filter_map (row_of_slot alone dump) slots ≡ map File (map (file_row_of dump) (filter (λ (s : ℕ × List ℕ). is_used s.1) slots))
rows_of_files dump [] = refl
rows_of_files dump (slot ∷ slots) = by_use (is_used slot.1) (rows_of_files dump slots)
  where
    by_use : (used : Bool) → filter_map (row_of_slot alone dump) slots ≡ map File (map (file_row_of dump) (filter (λ (s : ℕ × List ℕ). is_used s.1) slots))
        → cons_option (cond used (Some (File (file_row_of dump slot))) None) (filter_map (row_of_slot alone dump) slots)
        ≡ map File (map (file_row_of dump) (cond used (slot ∷ filter (λ (s : ℕ × List ℕ). is_used s.1) slots) (filter (λ (s : ℕ × List ℕ). is_used s.1) slots)))
    by_use true e = ap (λ (rest : List ListedRow). File (file_row_of dump slot) ∷ rest) e
    by_use false e = e

pub files_alone : FilesAloneAreTheInventory
unfolding wanted_rows file_rows
files_alone dump = append-nil (filter_map (row_of_slot alone dump) (numbered_slots (way_slots dump.image))) ∙ rows_of_files dump (numbered_slots (way_slots dump.image))
