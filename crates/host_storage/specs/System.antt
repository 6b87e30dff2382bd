-- What the system is asked for by a path.
use Rattle.std.specs.Prelude.{◌||◌, ℕ, List, [], ◌∷◌, ◌++◌, Bool, nat_le, max, bytes_eq, codes, decimal, length, take, Option, Some, None}
use Rattle.std.specs.Path.{path_parent}
use Rattle.host_storage.specs.declared.standard_streams.StandardStream.{StandardStream}
use Rattle.host_storage.specs.declared.standard_streams.StandardStream.TheVariants.{Input, Output, Error}

-- a path begins with this text
abbrev pub path_begins_with : List ℕ → List ℕ → Bool
path_begins_with start path = bytes_eq (take (length start) path) start

-- a path is one under which a system shows a process the files that it has open
abbrev pub is_of_open_file : List ℕ → Bool
is_of_open_file path =
    bytes_eq path (codes "/dev/stdin") || path_begins_with (codes "/dev/fd/") path || path_begins_with (codes "/proc/self/fd/") path

-- where the system shows what is open as a standard stream
abbrev pub stream_path : StandardStream → List ℕ
stream_path Input = codes "/proc/self/fd/0"
stream_path Output = codes "/proc/self/fd/1"
stream_path Error = codes "/proc/self/fd/2"

-- where it shows how far that was read or written
abbrev pub position_path : StandardStream → List ℕ
position_path Input = codes "/proc/self/fdinfo/0"
position_path Output = codes "/proc/self/fdinfo/1"
position_path Error = codes "/proc/self/fdinfo/2"

-- a file of this length, in which the next byte goes to a position, has reached the limit
abbrev pub is_at_limit : ℕ → ℕ → ℕ → Bool
is_at_limit limit length position = nat_le limit (max length position)

-- the name of a draft of this number
abbrev pub draft_name : ℕ → List ℕ
draft_name number = codes ".d64sh-" ++ decimal number

-- the folder of a path's file, by its parent
abbrev pub folder_or_here : Option (List ℕ) → List ℕ
folder_or_here None = codes "."
folder_or_here (Some []) = codes "."
folder_or_here (Some (first ∷ rest)) = first ∷ rest

-- the folder of a path's file
abbrev pub folder_path : List ℕ → List ℕ
folder_path path = folder_or_here (path_parent path)
