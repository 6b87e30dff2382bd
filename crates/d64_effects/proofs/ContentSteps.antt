-- the effect of the commands on the directory's list of names and contents
use Rattle.std.proofs.Common.{◌≡◌, ℕ, zero, suc, Bool, true, false, not, cond, List, [], ◌∷◌, length, map, set, Option, Some, None, refl, sym, ap, ◌∙◌, subst}
use Rattle.std.specs.Prelude.{position, filter, take, slice_get, option_map, bytes_eq}
use Rattle.std.specs.List.{filter_map, cons_option}
use Rattle.std.proofs.lemmas.List.Elements.{filter_agree}
use Rattle.d64_files.specs.Name.{IsName, name_in}
use Rattle.d64_files.proofs.FilledNames.{name_in-filled_field}
use Rattle.d64_effects.specs.Contents.{ListedFile, listed_file, names_and_contents}
use Rattle.d64_effects.specs.ContentsAfter.{list_with, is_scratched_row, row_named, renamed_rows}
use Rattle.d64_effects.specs.ContentsLaws.{FormattedListsNothing, WrittenListsTheFile, ScratchedListsTheOthers, RenamedListsTheName, NamedListsTheSame, ValidatedListsTheClosed, UndeletedListsTheFile}
use Rattle.d64_effects.specs.View.{FileView}
use Rattle.d64_effects.specs.ViewAfter.{formatted_view, written_view, new_file, is_vacant, slots_with, first_vacant, emptied_if, scratched_view, with_field, renamed_slots, renamed_view, named_view, validated_view, file_back, undeleted_view}
use Rattle.d64_effects.specs.Write.{taken_by}
use Rattle.d64_effects.proofs.Rows.{position-cons}

-- what slots list
abbrev rows_of : List (Option FileView) → List ListedFile
rows_of slots = filter_map (option_map listed_file) slots

pub formatted-lists_nothing : FormattedListsNothing
unfolding formatted_view
formatted-lists_nothing count name id = refl

-- a file in the first vacant slot
rows-with : (slots : List (Option FileView)) (file : FileView) (place : Option ℕ) → position is_vacant slots ≡ place
    → rows_of (slots_with slots place file) ≡ list_with (rows_of slots) place (listed_file file)
rows-with [] file None e = refl
rows-with [] file (Some place) e = cc
rows-with (None ∷ slots) file place e =
    subst (λ (p : Option ℕ). rows_of (slots_with (None ∷ slots) p file) ≡ list_with (rows_of slots) p (listed_file file))
    (sym (position-cons is_vacant None slots) ∙ e) refl
rows-with (Some first ∷ slots) file place e =
    subst (λ (p : Option ℕ). rows_of (slots_with (Some first ∷ slots) p file) ≡ list_with (listed_file first ∷ rows_of slots) p (listed_file file))
    (sym (position-cons is_vacant (Some first) slots) ∙ e) (behind (position is_vacant slots) (rows-with slots file (position is_vacant slots) refl))
  where
    behind : (later : Option ℕ) → rows_of (slots_with slots later file) ≡ list_with (rows_of slots) later (listed_file file)
        → rows_of (slots_with (Some first ∷ slots) (option_map (λ (k : ℕ). suc k) later) file)
        ≡ list_with (listed_file first ∷ rows_of slots) (option_map (λ (k : ℕ). suc k) later) (listed_file file)
    behind None same = ap (λ (rows : List ListedFile). listed_file first ∷ rows) same
    behind (Some k) same = ap (λ (rows : List ListedFile). listed_file first ∷ rows) same

pub written-lists_the_file : WrittenListsTheFile
unfolding written_view
written-lists_the_file shown name kind bytes named =
    let taken : List ℕ = taken_by shown.free (length bytes) in
    rows-with shown.slots (new_file name kind bytes taken) (first_vacant shown) refl
    ∙ ap (λ (known : List ℕ). list_with (names_and_contents shown) (first_vacant shown)
    record { name = known; kind = kind; closed = true; locked = false; size = length taken; content = bytes }) (name_in-filled_field name named)

-- the files that are left
rows-emptied : (goes : ListedFile → Bool) (slots : List (Option FileView))
    → rows_of (map (emptied_if (λ file. goes (listed_file file))) slots) ≡ filter (λ row. not (goes row)) (rows_of slots)
rows-emptied goes [] = refl
rows-emptied goes (None ∷ slots) = rows-emptied goes slots
rows-emptied goes (Some file ∷ slots) =
    ap (cons_option (option_map listed_file (emptied_if (λ f. goes (listed_file f)) (Some file)))) (rows-emptied goes slots)
    ∙ by_test (goes (listed_file file)) (filter (λ row. not (goes row)) (rows_of slots))
  where
    by_test : (b : Bool) (rows : List ListedFile)
        → cons_option (option_map listed_file (cond b None (Some file))) rows ≡ cond (not b) (listed_file file ∷ rows) rows
    by_test true rows = refl
    by_test false rows = refl

pub scratched-lists_the_others : ScratchedListsTheOthers
unfolding scratched_view
scratched-lists_the_others shown patterns = rows-emptied (is_scratched_row patterns) shown.slots

pub validated-lists_the_closed : ValidatedListsTheClosed
unfolding validated_view
validated-lists_the_closed shown =
    rows-emptied (λ row. not row.closed) shown.slots
    ∙ filter_agree (λ (row : ListedFile). not (not row.closed)) (λ row. row.closed) (λ row. twice row.closed) (names_and_contents shown)
  where
    twice : (b : Bool) → not (not b) ≡ b
    twice true = refl
    twice false = refl

pub named-lists_the_same : NamedListsTheSame
unfolding named_view
named-lists_the_same shown name id = refl

-- the first file of a name
rows-renamed : (slots : List (Option FileView)) (old new : List ℕ) → IsName new
    → rows_of (renamed_slots slots old new) ≡ renamed_rows (rows_of slots) old new
rows-renamed [] old new named = refl
rows-renamed (None ∷ slots) old new named = rows-renamed slots old new named
rows-renamed (Some file ∷ slots) old new named =
    by_test (bytes_eq (name_in file.field) old) (rows-renamed slots old new named)
  where
    by_test : (b : Bool) → rows_of (renamed_slots slots old new) ≡ renamed_rows (rows_of slots) old new
        → rows_of (cond b (Some (with_field file new) ∷ slots) (Some file ∷ renamed_slots slots old new))
        ≡ cond b (row_named (listed_file file) new ∷ rows_of slots) (listed_file file ∷ renamed_rows (rows_of slots) old new)
    by_test true same = ap (λ (name : List ℕ). row_named (listed_file file) name ∷ rows_of slots) (name_in-filled_field new named)
    by_test false same = ap (λ (rows : List ListedFile). listed_file file ∷ rows) same

pub renamed-lists_the_name : RenamedListsTheName
unfolding renamed_view
renamed-lists_the_name shown old new named = rows-renamed shown.slots old new named

-- a file in a vacant slot
rows-back : (slots : List (Option FileView)) (file : FileView) (slot : ℕ) → slice_get slots slot ≡ Some None
    → rows_of (set slots slot (Some file))
    ≡ list_with (rows_of slots) (Some (length (filter (λ entry. not (is_vacant entry)) (take slot slots)))) (listed_file file)
rows-back [] file slot e = absurd (cc)
rows-back (None ∷ slots) file zero e = refl
rows-back (Some first ∷ slots) file zero e = absurd (cc)
rows-back (None ∷ slots) file (suc slot) e = rows-back slots file slot e
rows-back (Some first ∷ slots) file (suc slot) e = ap (λ (rows : List ListedFile). listed_file first ∷ rows) (rows-back slots file slot e)

pub undeleted-lists_the_file : UndeletedListsTheFile
unfolding undeleted_view
undeleted-lists_the_file image shown slot kind vacant = rows-back shown.slots (file_back image slot kind) slot vacant
