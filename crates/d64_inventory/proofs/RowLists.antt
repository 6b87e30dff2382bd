-- The rows of slots, one after another.
use Rattle.std.proofs.Common.{◌≡◌, ℕ, ◌+◌, ◌<◌, ◌≤◌, Bool, true, false, cond, List, [], ◌∷◌, length, map, get_or, drop, Option, Some, None, refl, ap, ap₂, ◌∙◌, arith}
use Rattle.std.specs.Prelude.{filter}
use Rattle.std.specs.Option.{option_and_then}
use Rattle.std.proofs.Math.ListN.{drop_of_length-le}
use Rattle.std.proofs.lemmas.List.{drop_more}
use Rattle.std.proofs.lemmas.List.FromFn.{length-enumerate_from, get_or-enumerate_from}
use Rattle.std.proofs.lemmas.Option.{slice_get-get_or}
use Rattle.d64_files.specs.Directory.{numbered_slots}
use Rattle.d64_files.specs.Slot.{is_used}
use Rattle.d64_survey.specs.Dump.{DumpView}
use Rattle.d64_survey.specs.Owners.{way_slots}
use Rattle.d64_inventory.specs.Rows.{FileRowView, file_row_of, row_at, rows_among, rows_from, rows}

-- past the last slot no row is left
pub none_left : (dump : DumpView) (slot : ℕ) → length (way_slots dump.image) ≤ slot → rows_from dump slot ≡ []
none_left dump slot past =
    ap (rows_among dump) (drop_of_length-le (numbered_slots (way_slots dump.image)) (let long : length (numbered_slots (way_slots dump.image)) ≤ slot = omega (arith, length-enumerate_from 0 (way_slots dump.image)) in long))

-- the bytes of a slot that is there
abbrev bytes_of : DumpView → ℕ → List ℕ
bytes_of dump slot = get_or (way_slots dump.image) slot []

-- the rows that are left after one slot
abbrev later : DumpView → ℕ → List FileRowView
later dump slot = rows_from dump (slot + 1)

-- those from a slot on are its own row, if it is used, and the later ones
first_and_later : (dump : DumpView) (slot : ℕ) → slot < length (way_slots dump.image)
    → rows_from dump slot ≡ cond (is_used (bytes_of dump slot)) (file_row_of dump (slot, bytes_of dump slot) ∷ later dump slot) (later dump slot)
first_and_later dump slot within =
    let cells = way_slots dump.image in
    let long : slot < length (numbered_slots cells) = omega (arith, length-enumerate_from 0 cells) in
    ap (rows_among dump)
    (drop_more (numbered_slots cells) slot (0, []) long
    ∙ ap (λ (s : ℕ × List ℕ). s ∷ drop (slot + 1) (numbered_slots cells))
    (get_or-enumerate_from 0 cells slot (0, []) within ∙ ap₂ (λ (n : ℕ) (b : List ℕ). (n, b)) (let e : 0 + slot ≡ slot = omega arith in e) refl))
    ∙ mapped (is_used (bytes_of dump slot)) (slot, bytes_of dump slot) (filter (λ (s : ℕ × List ℕ). is_used s.1) (drop (slot + 1) (numbered_slots cells)))
  where
    mapped : (used : Bool) (s : ℕ × List ℕ) (rest : List (ℕ × List ℕ)) → map (file_row_of dump) (cond used (s ∷ rest) rest) ≡ cond used (file_row_of dump s ∷ map (file_row_of dump) rest) (map (file_row_of dump) rest)
    mapped true s rest = refl
    mapped false s rest = refl

-- the row of a slot that is there
row_there : (dump : DumpView) (slot : ℕ) → slot < length (way_slots dump.image)
    → row_at dump slot ≡ cond (is_used (bytes_of dump slot)) (Some (file_row_of dump (slot, bytes_of dump slot))) None
row_there dump slot within =
    ap (λ (c : Option (List ℕ)). option_and_then (λ cell. cond (is_used cell) (Some (file_row_of dump (slot, cell))) None) c) (slice_get-get_or (way_slots dump.image) slot [] within)

-- what was found at a slot
by_use : (used : Bool) (row found : FileRowView) → Some found ≡ cond used (Some row) None → (rest : List FileRowView) → cond used (row ∷ rest) rest ≡ found ∷ rest
by_use true row found e rest = ap (λ (r : FileRowView). r ∷ rest) (let f : Some found ≡ Some row = e in cc)
by_use false row found e rest = absurd (let f : Some found ≡ None = e in cc)

by_no_use : (used : Bool) (row : FileRowView) → None ≡ cond used (Some row) None → (rest : List FileRowView) → cond used (row ∷ rest) rest ≡ rest
by_no_use true row e rest = absurd (let f : None ≡ Some row = e in cc)
by_no_use false row e rest = refl

-- a row at a slot is the first that is left
pub row_first : (dump : DumpView) (slot : ℕ) (row : FileRowView) → slot < length (way_slots dump.image) → Some row ≡ row_at dump slot → rows_from dump slot ≡ row ∷ later dump slot
row_first dump slot row within is =
    first_and_later dump slot within ∙ by_use (is_used (bytes_of dump slot)) (file_row_of dump (slot, bytes_of dump slot)) row (is ∙ row_there dump slot within) (later dump slot)

-- if it has no row, the later ones are left
pub row_later : (dump : DumpView) (slot : ℕ) → slot < length (way_slots dump.image) → None ≡ row_at dump slot → rows_from dump slot ≡ later dump slot
row_later dump slot within is =
    first_and_later dump slot within ∙ by_no_use (is_used (bytes_of dump slot)) (file_row_of dump (slot, bytes_of dump slot)) (is ∙ row_there dump slot within) (later dump slot)

-- those from the first slot on are all
pub from_first : (dump : DumpView) → rows_from dump 0 ≡ rows dump
unfolding rows
from_first dump = refl
