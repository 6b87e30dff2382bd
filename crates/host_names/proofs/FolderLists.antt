-- The folders in which an image's folder lies, one after another.
use Rattle.std.proofs.Common.{◌≡◌, ℕ, ◌+◌, ◌<◌, ◌≤◌, List, [], ◌∷◌, ◌++◌, length, map, get_or, drop, sym, ap, ◌∙◌, Bor}
use Rattle.std.proofs.Math.ListN.{drop_of_length-le}
use Rattle.std.proofs.lemmas.List.{drop_more}
use Rattle.host_names.specs.Paths.{with_slash, place_below}

-- the texts of folders
abbrev pub texts : List (Bor (List ℕ)) → List (List ℕ)
texts folders = map (λ (folder : Bor (List ℕ)). folder.now) folders

-- the next folder, and those after it
pub next_folder : (folders : List (Bor (List ℕ))) (k : ℕ) (d : Bor (List ℕ)) → k < length folders → texts (drop k folders) ≡ (get_or folders k d).now ∷ texts (drop (k + 1) folders)
next_folder folders k d within = ap texts (drop_more folders k d within)

-- no folder is left
pub no_folder : (folders : List (Bor (List ℕ))) (k : ℕ) → length folders ≤ k → texts (drop k folders) ≡ []
no_folder folders k past = ap texts (drop_of_length-le folders past)

-- one more folder below
pub gone_below : (place now : List ℕ) (folders : List (Bor (List ℕ))) (k : ℕ) (d : Bor (List ℕ)) → k < length folders → now ≡ with_slash (place ++ (get_or folders k d).now)
    → place_below now (texts (drop (k + 1) folders)) ≡ place_below place (texts (drop k folders))
unfolding place_below
gone_below place now folders k d within is =
    ap (λ (p : List ℕ). place_below p (texts (drop (k + 1) folders))) is ∙ sym (ap (place_below place) (next_folder folders k d within))

-- all folders are below
pub all_below : (place : List ℕ) (folders : List (Bor (List ℕ))) (k : ℕ) → length folders ≤ k → place ≡ place_below place (texts (drop k folders))
unfolding place_below
all_below place folders k past = sym (ap (place_below place) (no_folder folders k past))
