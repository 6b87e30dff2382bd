-- Counts of the entries of slots.
use Rattle.std.proofs.Common.{◌≡◌, ℕ, ◌+◌, Bool, cond, List, [], ◌∷◌, refl, sym, ap, ◌∙◌, arith}
use Rattle.std.specs.Prelude.{count_by}
use Rattle.std.proofs.lemmas.List.Sums.{sum_by-cons}
use Rattle.d64_files.specs.Slot.{EntryView, is_used}
use Rattle.d64_files.specs.Directory.{entries}
use Rattle.d64_files.proofs.Owners.{entries_from}
use Rattle.d64_survey.specs.Dump.{DumpView}
use Rattle.d64_survey.specs.Owners.{way_slots}
use Rattle.d64_survey.specs.Inspection.{is_whole_file, is_unwhole_file, entry_count, whole_count, unwhole_count}

-- as many entries pass a test of their bytes as slots do
counted_from : (test : List ℕ → Bool) (image : List (List ℕ)) (n : ℕ) (cells : List (List ℕ))
    → count_by (λ (entry : EntryView). test entry.bytes) (entries_from image n cells) ≡ count_by test cells
counted_from test image n [] = refl
counted_from test image n (cell ∷ cells) =
    sum_by-cons (λ (entry : EntryView). cond (test entry.bytes) 1 0) (record { slot = n; bytes = cell; image = image }) (entries_from image (n + 1) cells)
    ∙ ap (λ (k : ℕ). cond (test cell) 1 0 + k) (counted_from test image (n + 1) cells)
    ∙ sym (sum_by-cons (λ (bytes : List ℕ). cond (test bytes) 1 0) cell cells)

pub entries_counted : (test : List ℕ → Bool) (image cells : List (List ℕ))
    → count_by (λ (entry : EntryView). test entry.bytes) (entries image cells) ≡ count_by test cells
entries_counted test image cells = counted_from test image 0 cells

-- before the first entry is counted all are to come
pub none_counted : (test : List ℕ → Bool) (image : List (List ℕ)) (walk : List EntryView) (total : ℕ) → walk ≡ entries image (way_slots image)
    → total ≡ count_by test (way_slots image) → 0 + count_by (λ (entry : EntryView). test entry.bytes) walk ≡ total
none_counted test image walk total is all =
    let here : 0 + count_by (λ (entry : EntryView). test entry.bytes) walk ≡ count_by (λ (entry : EntryView). test entry.bytes) walk = omega arith in
    here ∙ ap (λ (w : List EntryView). count_by (λ (entry : EntryView). test entry.bytes) w) is ∙ entries_counted test image (way_slots image) ∙ sym all

pub entry_count-is : (image : List (List ℕ)) → entry_count image ≡ count_by is_used (way_slots image)
unfolding entry_count
entry_count-is image = refl

pub whole_count-is : (dump : DumpView) → whole_count dump ≡ count_by (is_whole_file dump) (way_slots dump.image)
unfolding whole_count
whole_count-is dump = refl

pub unwhole_count-is : (dump : DumpView) → unwhole_count dump ≡ count_by (is_unwhole_file dump) (way_slots dump.image)
unfolding unwhole_count
unwhole_count-is dump = refl
