-- Each part of a path names something in its folder.
use Rattle.std.proofs.Common.{◌≡◌, ◌≢◌, ℕ, ◌-◌, ◌≤◌, Bool, true, false, cond, List, [], ◌∷◌, length, take, get_or, All, refl, ap, arith}
use Rattle.std.specs.Prelude.{filter, codes, ◌==◌, not}
use Rattle.std.specs.List.{slice_split, onto_first}
use Rattle.std.proofs.lemmas.Bool.{both_ways, eqb-false, not-true}
use Rattle.std.proofs.lemmas.List.{length-append}
use Rattle.std.proofs.lemmas.List.Elements.{All-nil, All-cons, All-head, All-tail, All-append, All-take, All-filter, All-get_or, filter_passes}
use Rattle.host_names.specs.HostName.{slash}
use Rattle.host_names.specs.ImagePlace.{parts, is_folder, folders_of, last_part, finished_name, unfinished_name, image_name, partial_name}
use Rattle.host_names.specs.Laws.{StaysInFolder}
use Rattle.host_names.proofs.Parts.{is_slash, some_parts}
use Rattle.host_names.proofs.SafeNames.{all_from_test, stays_from_length}

-- no byte of a part is a `/`
abbrev NoSlash : List ℕ → Type 0
NoSlash part = All (λ byte. byte ≢ slash) part

onto : (byte : ℕ) → byte ≢ slash → (all : List (List ℕ)) → All NoSlash all → All NoSlash (onto_first byte all)
onto byte is [] none = All-cons NoSlash (byte ∷ []) [] (All-cons (λ b. b ≢ slash) byte [] is (All-nil (λ b. b ≢ slash))) (All-nil NoSlash)
onto byte is (part ∷ all) none =
    All-cons NoSlash (byte ∷ part) all (All-cons (λ b. b ≢ slash) byte part is (All-head NoSlash part all none)) (All-tail NoSlash part all none)

split_none : (path : List ℕ) → All NoSlash (slice_split is_slash path)
split_none [] = All-cons NoSlash [] [] (All-nil (λ b. b ≢ slash)) (All-nil NoSlash)
split_none (byte ∷ path) = by_test (split_none path) (byte == slash) refl
  where
    by_test : All NoSlash (slice_split is_slash path) → (t : Bool) → (byte == slash) ≡ t → All NoSlash (cond t ([] ∷ slice_split is_slash path) (onto_first byte (slice_split is_slash path)))
    by_test others true is = All-cons NoSlash [] (slice_split is_slash path) (All-nil (λ b. b ≢ slash)) others
    by_test others false is = onto byte (eqb-false byte slash is) (slice_split is_slash path) others

parts_none : (path : List ℕ) → All NoSlash (parts path)
unfolding parts
parts_none path = split_none path

-- a part that names a folder
folder_stays : (part : List ℕ) → is_folder part ≡ true → NoSlash part → StaysInFolder part
folder_stays part passes none = record {
  some = λ is. both_ways (is_folder part) (ap is_folder is) passes;
  not_here = λ is. both_ways (is_folder part) (ap is_folder is) passes;
  not_above = λ is. both_ways (is_folder part) (ap is_folder is) passes;
  no_slash = none;
}

pub folders_stay : (path : List ℕ) → All StaysInFolder (folders_of path)
unfolding folders_of
folders_stay path =
    let all = take (length (parts path) - 1) (parts path) in
    λ k d within.
    folder_stays (get_or (filter is_folder all) k d) (filter_passes is_folder all k d within)
    (All-filter is_folder NoSlash all (All-take NoSlash (length (parts path) - 1) (parts path) (parts_none path)) k d within)

-- the last part
last_none : (path : List ℕ) → NoSlash (last_part path)
unfolding last_part
last_none path = All-get_or NoSlash (parts path) (length (parts path) - 1) [] (omega (arith, some_parts path)) (parts_none path)

abbrev is_other : ℕ → Bool
is_other byte = not (byte == slash)

other_from_test : (byte : ℕ) → is_other byte ≡ true → byte ≢ slash
other_from_test byte passes = eqb-false byte slash (not-true (byte == slash) passes)

finished_none : (last : List ℕ) → NoSlash last → NoSlash (finished_name last)
unfolding finished_name
finished_none last none = All-append (λ b. b ≢ slash) last (codes ".files") none (all_from_test (λ b. b ≢ slash) is_other other_from_test (codes ".files") refl)

finished_long : (last : List ℕ) → 6 ≤ length (finished_name last)
unfolding finished_name
finished_long last = omega (arith, length-append last (codes ".files"))

unfinished_none : (last : List ℕ) → NoSlash last → NoSlash (unfinished_name last)
unfolding unfinished_name
unfinished_none last none =
    All-append (λ b. b ≢ slash) (finished_name last) (codes ".partial") (finished_none last none) (all_from_test (λ b. b ≢ slash) is_other other_from_test (codes ".partial") refl)

unfinished_long : (last : List ℕ) → 6 ≤ length (unfinished_name last)
unfolding unfinished_name
unfinished_long last = omega (arith, length-append (finished_name last) (codes ".partial"), finished_long last)

pub image_stays : (path : List ℕ) → StaysInFolder (image_name path)
image_stays path = stays_from_length (image_name path) (omega (arith, finished_long (last_part path))) (finished_none (last_part path) (last_none path))

pub partial_stays : (path : List ℕ) → StaysInFolder (partial_name path)
partial_stays path = stays_from_length (partial_name path) (omega (arith, unfinished_long (last_part path))) (unfinished_none (last_part path) (last_none path))
