-- Files that aren't whole, one line at a time.
use Rattle.std.proofs.Common.{◌≡◌, ℕ, ◌+◌, List, [], ◌∷◌, ◌++◌, refl, ap, ◌∙◌}
use Rattle.std.specs.List.{flat_map}
use Rattle.d64_files.specs.Slot.{EntryView}
use Rattle.d64_files.specs.Directory.{entries}
use Rattle.d64_files.proofs.Owners.{entries_from}
use Rattle.d64_survey.specs.Dump.{DumpView}
use Rattle.d64_survey.specs.Owners.{way_slots}
use Rattle.cmd_check.specs.FileLines.{file_line, file_lines}

-- the lines of entries are those of their slots
lines_from : (dump : DumpView) (image : List (List ℕ)) (n : ℕ) (cells : List (List ℕ))
    → flat_map (λ (entry : EntryView). file_line dump entry.bytes) (entries_from image n cells) ≡ flat_map (file_line dump) cells
lines_from dump image n [] = refl
lines_from dump image n (cell ∷ cells) = ap (λ (text : List ℕ). file_line dump cell ++ text) (lines_from dump image (n + 1) cells)

-- before the first entry all lines are to come
pub no_line : (dump : DumpView) (image : List (List ℕ)) (walk : List EntryView) (before : List ℕ) → image ≡ dump.image → walk ≡ entries image (way_slots image)
    → before ++ flat_map (λ (entry : EntryView). file_line dump entry.bytes) walk ≡ before ++ file_lines dump (way_slots dump.image)
unfolding file_lines
no_line dump image walk before same is =
    ap (λ (w : List EntryView). before ++ flat_map (λ (entry : EntryView). file_line dump entry.bytes) w) is
    ∙ ap (λ (text : List ℕ). before ++ text) (lines_from dump image 0 (way_slots image))
    ∙ ap (λ (i : List (List ℕ)). before ++ file_lines dump (way_slots i)) same
