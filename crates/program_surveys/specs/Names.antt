-- The names of a list of files.
use Rattle.std.specs.Prelude.{ℕ, nat_lt, nat_le, Bool, ◌&&◌, if◌then◌else◌, List, [], ◌∷◌, ◌++◌, map, filter, take, length, codes}
use Rattle.std.specs.Str.{is_utf8}
use Rattle.program_console.specs.declared.reason.Reason.{Reason}
use Rattle.program_console.specs.declared.reason.Reason.TheVariants.{NotUtf8, ListedNameTooLong}

-- the most bytes of a name in a list
abbrev pub name_limit : ℕ
name_limit = 4096

-- what is kept of a name in a list: all of it, or its first 4097 bytes
abbrev pub kept_name : List ℕ → List ℕ
kept_name name = take 4097 name

-- a piece between separators is a name, unless it is empty
abbrev pub is_listed_name : List ℕ → Bool
is_listed_name piece = nat_lt 0 (length piece)

-- what a run is given: a file with this name, or a name that cannot be a file's, with what is shown
-- of it and the reason
pub data Request : Type 0 where
  File : List ℕ → Request
  NoFile : List ℕ → Reason → Request

-- a name of a list can be a file's: it is UTF-8 and not too long
abbrev pub is_file_name : List ℕ → Bool
is_file_name name = is_utf8 name && nat_le (length name) name_limit

-- what is shown of a name of a list: all of it, or the first 64 bytes and two full stops if it is
-- too long
abbrev pub shortened_name : List ℕ → List ℕ
shortened_name name = if nat_le (length name) name_limit then name else take 64 name ++ codes ".."

-- why a name of a list cannot be a file's
abbrev pub name_reason : List ℕ → Reason
name_reason name = if nat_le (length name) name_limit then NotUtf8 else ListedNameTooLong

-- the request for a name of a list
abbrev pub listed_name : List ℕ → Request
listed_name name = if is_file_name name then File name else NoFile (shortened_name name) (name_reason name)

-- the requests for a piece of a list of which this is kept: none if it is empty
abbrev pub requests_of : List ℕ → List Request
requests_of piece = if is_listed_name piece then listed_name piece ∷ [] else []

-- the requests for the parts of a list between its separators: one for each name, none for the
-- empty parts
unfoldable pub requests_in : List (List ℕ) → List Request
requests_in parts = map listed_name (map kept_name (filter is_listed_name parts))
