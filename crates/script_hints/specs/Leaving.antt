-- What happens to changes that are not saved when a session is left.
use Rattle.std.specs.Prelude.{◌≡◌, ◌++◌, false, Option, Some, option_map, codes}
use Rattle.std.specs.FinMap.{insert}
use Rattle.d64_image.specs.Disk.{Bytes}
use Rattle.host_storage.specs.Files.{HostState}
use Rattle.host_storage.specs.Folders.{Looks}
use Rattle.d64_history.specs.History.{History}
use Rattle.d64_history.specs.SessionFile.{file_of}
use Rattle.host_storage.specs.Shown.{shown_name}

-- the file that keeps the session of an image
abbrev pub session_name : Bytes → Bytes
session_name image = image ++ codes ".session"

-- the line that says in which file changes are kept
abbrev pub kept_line : Bytes → Bytes
kept_line name =
    codes "d64sh: changes are not saved; they are kept in "
    ++ (shown_name name ++ (codes " (d64sh shell --resume " ++ (shown_name name ++ codes ")\n")))

-- the session is kept beside its image, under a name that nothing had, and this line says so
pub record IsKeptUnder (old : HostState) (home : Option Bytes) (history : History) (line : Bytes) (new : HostState) : Type 0 where
  pub image : Bytes
  pub named : home ≡ Some image
  pub fresh : Looks old.files (session_name image) false
  pub stored : new.files ≡ option_map (λ all. insert all (session_name image) (file_of history)) old.files
  pub says : line ≡ kept_line (session_name image)
