-- What a host can return for a look at a path, and for a call that makes something new there.
use Rattle.std.specs.Prelude.{◌≡◌, ◌⊎◌, ℕ, Bool, true, false, ◌||◌, if◌then◌else◌, List, [], ◌∷◌, ◌++◌, nat_eq, length, take, drop, Option, option_map, unwrap_or, IfSome, Result, Ok, Err}
use Rattle.std.specs.List.{fold, starts_with}
use Rattle.std.specs.FinMap.{contains_key, empty, entries, get, insert}
use Rattle.host_storage.specs.Files.{Files}
use Rattle.host_storage.specs.Host.{one_more_failure}
use Rattle.host_storage.specs.declared.host.FolderFault.{FolderFault}
use Rattle.host_storage.specs.declared.host.FolderFault.TheVariants.{Exists, Device}

-- the name of a folder among a host's files, as in archives: its path and a slash, with no bytes
abbrev pub folder_name : List ℕ → List ℕ
folder_name path = path ++ 47 ∷ []

-- whether something is at a path: a file or a folder
abbrev pub is_at : Files → List ℕ → Bool
is_at files path = contains_key files path || contains_key files (folder_name path)

-- what a host can return for whether something is at a path
abbrev pub Looks : Option Files → List ℕ → Bool → Type 0
Looks files path returned = IfSome files (λ all. returned ≡ is_at all path)

-- the files with one more folder
abbrev pub with_folder : List ℕ → Files → Files
with_folder path files = insert files (folder_name path) []

-- the files with one more file
abbrev pub with_stored_file : List ℕ → List ℕ → Files → Files
with_stored_file path bytes files = insert files path bytes

-- the files with bytes appended to one of them
abbrev pub with_more : List ℕ → List ℕ → Files → Files
with_more path bytes files = insert files path (unwrap_or (get files path) [] ++ bytes)

-- the name of a file after its beginning is replaced by another
abbrev pub moved_name : List ℕ → List ℕ → List ℕ → List ℕ
moved_name from to name = if starts_with nat_eq name from then to ++ drop (length from) name else name

-- the files after a folder gets another path, and each file and folder in it another name
abbrev pub with_moved : List ℕ → List ℕ → Files → Files
with_moved from to files =
    fold (λ all entry. insert all (moved_name (folder_name from) (folder_name to) entry.0) entry.1) empty (entries files)

-- what a host can return for a call that makes something new at a path, and its files after it, if
-- it exposes them: after success nothing was there before, and they are changed so; after an error
-- something was there, or the device failed, and they are as before
abbrev pub Makes : {A : Type 0} → (Files → Files) → Option Files → List ℕ → Result A FolderFault → Option Files → Type 0
Makes change files path (Ok done) after = IfSome files (λ all. is_at all path ≡ false) × (after ≡ option_map change files)
Makes change files path (Err Exists) after = IfSome files (λ all. is_at all path ≡ true) × (after ≡ files)
Makes change files path (Err Device) after = after ≡ files

-- what a host can return for a call that appends bytes to a file, and its files after it, if it
-- exposes them: after success the file was there, and has the bytes at its end; after an error,
-- which is the device's, they are as before, or the file was there and has a first part of the
-- bytes
abbrev pub Extends : {A : Type 0} → List ℕ → List ℕ → Option Files → Result A FolderFault → Option Files → Type 0
Extends path bytes files (Ok done) after =
    IfSome files (λ all. contains_key all path ≡ true) × (after ≡ option_map (with_more path bytes) files)
Extends path bytes files (Err Device) after =
    (after ≡ files)
    ⊎ (IfSome files (λ all. contains_key all path ≡ true) × ((count : ℕ) × (after ≡ option_map (with_more path (take count bytes)) files)))
Extends path bytes files (Err Exists) after = ⊥

-- the count of failures after such a call
abbrev pub failures_after_making : {A : Type 0} → ℕ → Result A FolderFault → ℕ
failures_after_making count (Err Device) = one_more_failure count
failures_after_making count returned = count

-- the count of failures rises by one exactly if such a call returns the device's fault, up to its
-- greatest value
abbrev pub CountsMaking : {A : Type 0} → ℕ → ℕ → Result A FolderFault → Type 0
CountsMaking before after returned = after ≡ failures_after_making before returned
