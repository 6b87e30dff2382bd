-- The rows of a list, one after another.
use Rattle.std.proofs.Common.{◌≡◌, ℕ, ◌+◌, ◌<◌, ◌≤◌, List, [], ◌∷◌, ◌++◌, length, get_or, drop, Option, Some, None, refl, sym, ap, ap₂, ◌∙◌, arith}
use Rattle.std.specs.List.{cons_option, filter_map, slice_get}
use Rattle.std.specs.Option.{option_and_then}
use Rattle.std.proofs.Math.ListN.{drop_of_length-le}
use Rattle.std.proofs.lemmas.List.{drop_more}
use Rattle.std.proofs.lemmas.List.FromFn.{length-enumerate_from, get_or-enumerate_from}
use Rattle.std.proofs.lemmas.Option.{slice_get-get_or}
use Rattle.d64_files.specs.Directory.{numbered_slots}
use Rattle.d64_survey.specs.Owners.{way_slots}
use Rattle.d64_leftovers.specs.Rows.{row_of_slot, row_of_left, blocks_wanted, wanted_rows}
use Rattle.d64_leftovers.specs.Sources.{SourceView, wanted_row_at, wanted_rows_from, orphan_at, orphans_from}
use Rattle.d64_leftovers.specs.declared.row.ListedRow.{ListedRow}

-- ---- a list from a place on

none_past : {X Y : Type 0} (f : X → Option Y) (xs : List X) (n : ℕ) → length xs ≤ n → filter_map f (drop n xs) ≡ []
none_past f xs n past = ap (filter_map f) (drop_of_length-le xs past)

one_more : {X Y : Type 0} (f : X → Option Y) (xs : List X) (n : ℕ) (d : X) → n < length xs → filter_map f (drop n xs) ≡ cons_option (f (get_or xs n d)) (filter_map f (drop (n + 1) xs))
one_more f xs n d within = ap (filter_map f) (drop_more xs n d within)

-- ---- slots

-- the slots of what is walked
abbrev slots_of : SourceView → List (List ℕ)
slots_of source = way_slots source.dump.image

-- past the last slot no row is left
pub none_left : (source : SourceView) (slot : ℕ) → length (slots_of source) ≤ slot → wanted_rows_from source slot ≡ []
none_left source slot past =
    none_past (row_of_slot source.wanted source.dump) (numbered_slots (slots_of source)) slot
    (let long : length (numbered_slots (slots_of source)) ≤ slot = omega (arith, length-enumerate_from 0 (slots_of source)) in long)

-- the row of a slot that is there, if it is wanted
abbrev row_there : SourceView → ℕ → Option ListedRow
row_there source slot = row_of_slot source.wanted source.dump (slot, get_or (slots_of source) slot [])

-- the rows that are left after one slot
abbrev later : SourceView → ℕ → List ListedRow
later source slot = wanted_rows_from source (slot + 1)

-- those from a slot on are its own, if it is wanted, and the later ones
first_and_later : (source : SourceView) (slot : ℕ) → slot < length (slots_of source) → wanted_rows_from source slot ≡ cons_option (row_there source slot) (later source slot)
first_and_later source slot within =
    let cells = slots_of source in
    let long : slot < length (numbered_slots cells) = omega (arith, length-enumerate_from 0 cells) in
    one_more (row_of_slot source.wanted source.dump) (numbered_slots cells) slot (0, []) long
    ∙ ap (λ (s : ℕ × List ℕ). cons_option (row_of_slot source.wanted source.dump s) (later source slot))
    (get_or-enumerate_from 0 cells slot (0, []) within ∙ ap₂ (λ (n : ℕ) (b : List ℕ). (n, b)) (let e : 0 + slot ≡ slot = omega arith in e) refl)

-- the row at a slot that is there
row_is_there : (source : SourceView) (slot : ℕ) → slot < length (slots_of source) → wanted_row_at source slot ≡ row_there source slot
row_is_there source slot within =
    ap (λ (c : Option (List ℕ)). option_and_then (λ cell. row_of_slot source.wanted source.dump (slot, cell)) c) (slice_get-get_or (slots_of source) slot [] within)

-- a row at a slot is the first that is left
pub row_first : (source : SourceView) (slot : ℕ) (row : ListedRow) → slot < length (slots_of source) → Some row ≡ wanted_row_at source slot → wanted_rows_from source slot ≡ row ∷ later source slot
row_first source slot row within is =
    first_and_later source slot within ∙ ap (λ (r : Option ListedRow). cons_option r (later source slot)) (sym (is ∙ row_is_there source slot within))

-- if there is none at a slot, the later ones are left
pub row_later : (source : SourceView) (slot : ℕ) → slot < length (slots_of source) → None ≡ wanted_row_at source slot → wanted_rows_from source slot ≡ later source slot
row_later source slot within is =
    first_and_later source slot within ∙ ap (λ (r : Option ListedRow). cons_option r (later source slot)) (sym (is ∙ row_is_there source slot within))

-- ---- blocks that are left

-- the blocks of what is walked
abbrev blocks_of : SourceView → List ℕ
blocks_of source = blocks_wanted source.wanted source.dump

pub no_orphan : (source : SourceView) (place : ℕ) → length (blocks_of source) ≤ place → orphans_from source place ≡ []
no_orphan source place past = none_past (row_of_left source.dump) (blocks_of source) place past

orphan_and_later : (source : SourceView) (place : ℕ) → place < length (blocks_of source) → orphans_from source place ≡ cons_option (orphan_at source place) (orphans_from source (place + 1))
orphan_and_later source place within =
    one_more (row_of_left source.dump) (blocks_of source) place 0 within
    ∙ ap (λ (b : Option ℕ). cons_option (option_and_then (row_of_left source.dump) b) (orphans_from source (place + 1))) (sym (slice_get-get_or (blocks_of source) place 0 within))

pub orphan_first : (source : SourceView) (place : ℕ) (row : ListedRow) → place < length (blocks_of source) → Some row ≡ orphan_at source place
    → orphans_from source place ≡ row ∷ orphans_from source (place + 1)
orphan_first source place row within is = orphan_and_later source place within ∙ ap (λ (r : Option ListedRow). cons_option r (orphans_from source (place + 1))) (sym is)

pub orphan_later : (source : SourceView) (place : ℕ) → place < length (blocks_of source) → None ≡ orphan_at source place → orphans_from source place ≡ orphans_from source (place + 1)
orphan_later source place within is = orphan_and_later source place within ∙ ap (λ (r : Option ListedRow). cons_option r (orphans_from source (place + 1))) (sym is)

-- ---- both

-- those from the first slot and the first block on are all
pub from_first : (source : SourceView) → wanted_rows_from source 0 ++ orphans_from source 0 ≡ wanted_rows source.wanted source.dump
unfolding wanted_rows
from_first source = refl
