-- The paths of the folder that the files of an image get, and of these files.
use Rattle.std.specs.Prelude.{ℕ, ◌-◌, ◌==◌, Bool, if◌then◌else◌, List, [], ◌∷◌, ◌++◌, length, slice_index, codes}
use Rattle.host_names.specs.HostName.{slash}
use Rattle.host_names.specs.ImagePlace.{folders_of, image_name, partial_name}

-- a path with a `/` at its end
abbrev pub with_slash : List ℕ → List ℕ
with_slash path = path ++ codes "/"

-- a path ends in a `/`
abbrev pub ends_in_slash : List ℕ → Bool
ends_in_slash path = slice_index path (length path - 1) == slash

-- what the paths in a folder begin with: the folder's path, and a `/`, unless it ends in one
abbrev pub path_inside : List ℕ → List ℕ
path_inside folder = if ends_in_slash folder then folder else with_slash folder

-- what the paths in the last of some folders begin with; each folder lies in the one before it, and
-- the first one here
unfoldable pub place_below : List ℕ → List (List ℕ) → List ℕ
place_below place [] = place
place_below place (folder ∷ folders) = place_below (with_slash (place ++ folder)) folders

-- the same for the folder of an image, below the chosen folder, by the name of the image's file
abbrev pub place_of : List ℕ → List ℕ → List ℕ
place_of into name = place_below (path_inside into) (folders_of name)

-- the path of that folder once it is complete, and before
abbrev pub done_path : List ℕ → List ℕ → List ℕ
done_path into name = place_of into name ++ image_name name

abbrev pub partial_path : List ℕ → List ℕ → List ℕ
partial_path into name = place_of into name ++ partial_name name

-- the path of a file in a folder
abbrev pub path_in : List ℕ → List ℕ → List ℕ
path_in folder file = with_slash folder ++ file
