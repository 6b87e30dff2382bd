-- The names that the files of an image get, one after another, so that no two are the same.
use Rattle.std.specs.Prelude.{ℕ, ◌+◌, not, Bool, List, [], ◌∷◌, ◌++◌, length, unwrap_or}
use Rattle.std.specs.List.{list_any, find, range_with_len}
use Rattle.host_names.specs.declared.ending.Ending.{Ending}
use Rattle.host_names.specs.HostName.{is_same_name, stem, tail, numbered_name}

-- whether a name is the same as one that is taken
abbrev pub is_taken : List (List ℕ) → List ℕ → Bool
is_taken taken name = list_any (is_same_name name) taken

-- whether the n-th name that is tried is free
abbrev pub is_name_free : List (List ℕ) → List ℕ → List ℕ → ℕ → Bool
is_name_free taken front back number = not (is_taken taken (numbered_name front back number))

-- the number of the first free name, from 1: the one after as many as are taken, if all of these are
-- taken
unfoldable pub first_free : List (List ℕ) → List ℕ → List ℕ → ℕ
first_free taken front back = unwrap_or (find (is_name_free taken front back) (range_with_len 1 (length taken))) (length taken + 1)

-- the name that a file gets if these are taken
unfoldable pub next_name : List (List ℕ) → List ℕ → Ending → Bool → List ℕ
next_name taken text ending is_part =
    numbered_name (stem text) (tail ending is_part) (first_free taken (stem text) (tail ending is_part))

-- a file that gets a name: its name in text form, its ending, and whether it is written in part
pub record Named : Type 0 where
  pub text : List ℕ
  pub ending : Ending
  pub is_part : Bool

-- the names that are taken once these files have theirs
unfoldable pub with_taken_names : List (List ℕ) → List Named → List (List ℕ)
with_taken_names taken [] = taken
with_taken_names taken (file ∷ files) = with_taken_names (taken ++ next_name taken file.text file.ending file.is_part ∷ []) files
