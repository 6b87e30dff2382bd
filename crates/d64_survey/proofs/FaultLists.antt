-- The faults of an image, list after list.
use Rattle.std.proofs.Common.{◌≡◌, ℕ, ◌+◌, ◌-◌, ◌≤◌, List, [], ◌∷◌, ◌++◌, sym, ap, ◌∙◌, arith, append_assoc}
use Rattle.std.specs.List.{flat_map, range_with_len}
use Rattle.std.proofs.lemmas.List.{flat_map_more}
use Rattle.std.proofs.lemmas.List.Folds.{flat_map-map}
use Rattle.d64_map.proofs.Ranges.{range_push}
use Rattle.d64_files.specs.Slot.{EntryView}
use Rattle.d64_files.specs.Directory.{entries, entry_of, numbered_slots}
use Rattle.d64_survey.specs.Faults.{count_faults, directory_faults, kind_faults, file_faults, shared_faults, free_faults, faults}
use Rattle.d64_survey.specs.declared.fault.Fault.{Fault}

-- what numbers from 1 list, and one more
pub listed_more : {A : Type 0} (f : ℕ → List A) (before : List A) (k : ℕ) → 1 ≤ k
    → (before ++ flat_map f (range_with_len 1 (k - 1))) ++ f k ≡ before ++ flat_map f (range_with_len 1 (k + 1 - 1))
listed_more f before k one =
    let here : 1 + (k - 1) ≡ k = omega arith in
    let more : k - 1 + 1 ≡ k + 1 - 1 = omega arith in
    flat_map_more f before (range_with_len 1 (k - 1)) k
    ∙ ap (λ (n : ℕ). before ++ flat_map f (range_with_len 1 (k - 1) ++ n ∷ [])) (sym here)
    ∙ ap (λ (ns : List ℕ). before ++ flat_map f ns) (sym (range_push 1 (k - 1)))
    ∙ ap (λ (n : ℕ). before ++ flat_map f (range_with_len 1 n)) more

-- what the entries of slots list is what the slots list
pub entries_list : {A : Type 0} (f : ℕ × List ℕ → List A) (image cells : List (List ℕ))
    → flat_map (λ (entry : EntryView). f (entry.slot, entry.bytes)) (entries image cells) ≡ flat_map f (numbered_slots cells)
entries_list f image cells = flat_map-map (λ (entry : EntryView). f (entry.slot, entry.bytes)) (entry_of image) (numbered_slots cells)

-- a list and what comes after it, before the rest
then_rest : (list longer more rest : List Fault) → longer ≡ list ++ more → longer ++ rest ≡ list ++ (more ++ rest)
then_rest list longer more rest e = ap (λ (l : List Fault). l ++ rest) e ∙ append_assoc list more rest

-- the six lists, one after another, are the faults
pub all_listed : (image : List (List ℕ)) (none counts directory kinds files shared free : List Fault) → none ≡ [] → counts ≡ none ++ count_faults image
    → directory ≡ counts ++ directory_faults image → kinds ≡ directory ++ kind_faults image → files ≡ kinds ++ file_faults image
    → shared ≡ files ++ shared_faults image → free ≡ shared ++ free_faults image → free ≡ faults image
unfolding faults
all_listed image none counts directory kinds files shared free e a b c d f g =
    let last = free_faults image in
    let from_5 = shared_faults image ++ last in
    let from_4 = file_faults image ++ from_5 in
    let from_3 = kind_faults image ++ from_4 in
    let from_2 = directory_faults image ++ from_3 in
    g ∙ then_rest files shared (shared_faults image) last f ∙ then_rest kinds files (file_faults image) from_5 d ∙ then_rest directory kinds (kind_faults image) from_4 c
    ∙ then_rest counts directory (directory_faults image) from_3 b ∙ then_rest none counts (count_faults image) from_2 a
    ∙ ap (λ (l : List Fault). l ++ (count_faults image ++ from_2)) e
