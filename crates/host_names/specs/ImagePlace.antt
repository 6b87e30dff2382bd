-- The place for the files of an image: folders below the one that is asked for, and in the last of
-- them a folder for the image.
use Rattle.std.specs.Prelude.{ℕ, ◌-◌, ◌==◌, not, Bool, List, [], ◌∷◌, ◌++◌, length, take, filter, slice_index_or, codes}
use Rattle.std.specs.List.{list_any, slice_split}
use Rattle.std.specs.Str.{bytes_eq}
use Rattle.host_names.specs.HostName.{slash}

-- the parts of a path, between each `/` and the next
unfoldable pub parts : List ℕ → List (List ℕ)
parts path = slice_split (λ byte. byte == slash) path

-- the parts that name no folder below: an empty one, `.` and `..`
abbrev pub no_folders : List (List ℕ)
no_folders = [] ∷ codes "." ∷ codes ".." ∷ []

-- whether a part names a folder below
abbrev pub is_folder : List ℕ → Bool
is_folder part = not (list_any (bytes_eq part) no_folders)

-- the folders of a file's path: all parts before the last one that name a folder below
unfoldable pub folders_of : List ℕ → List (List ℕ)
folders_of path = filter is_folder (take (length (parts path) - 1) (parts path))

-- the last part of a path
unfoldable pub last_part : List ℕ → List ℕ
last_part path = slice_index_or (parts path) (length (parts path) - 1) []

-- the name of the folder for an image whose path has this last part
unfoldable pub finished_name : List ℕ → List ℕ
finished_name last = last ++ codes ".files"

-- the name that this folder has until it is complete
unfoldable pub unfinished_name : List ℕ → List ℕ
unfinished_name last = finished_name last ++ codes ".partial"

-- the name of an image's folder, finished and unfinished, by the path of the image
abbrev pub image_name : List ℕ → List ℕ
image_name path = finished_name (last_part path)

abbrev pub partial_name : List ℕ → List ℕ
partial_name path = unfinished_name (last_part path)
