-- What follows from the definitions of names and folders.
use Rattle.std.specs.Prelude.{◌≡◌, ◌≢◌, ℕ, ◌+◌, ◌^◌, ◌<◌, ◌≤◌, Bool, false, List, [], ◌++◌, length, All, codes}
use Rattle.std.specs.List.{IsDistinct}
use Rattle.host_names.specs.declared.ending.Ending.{Ending}
use Rattle.host_names.specs.HostName.{slash, is_forbidden, is_reserved, is_same_name, device_name, tail}
use Rattle.host_names.specs.TakenNames.{Named, is_taken, next_name, with_taken_names}
use Rattle.host_names.specs.ImagePlace.{folders_of, image_name, partial_name}

-- a host can count this many names
abbrev pub AreCounted : List (List ℕ) → Type 0
AreCounted taken = length taken + 1 < 2 ^ 64

-- a name is that of something in its folder: it isn't empty, `.` or `..`, and has no `/`
pub record StaysInFolder (name : List ℕ) : Type 0 where
  pub some : name ≢ []
  pub not_here : name ≢ codes "."
  pub not_above : name ≢ codes ".."
  pub no_slash : All (λ byte. byte ≢ slash) name

-- each name of a file names something in its folder
abbrev pub NamesStayInTheirFolder : Type 0
NamesStayInTheirFolder = (taken : List (List ℕ)) (text : List ℕ) (ending : Ending) (is_part : Bool) → AreCounted taken
    → StaysInFolder (next_name taken text ending is_part)

-- each host accepts a name: it has no forbidden byte, and is not that of a device
pub record IsTakenByHosts (name : List ℕ) : Type 0 where
  pub allowed : All (λ byte. is_forbidden byte ≡ false) name
  pub no_device : is_reserved (device_name name) ≡ false

-- each host accepts each name of a file
abbrev pub NamesAreTakenByHosts : Type 0
NamesAreTakenByHosts = (taken : List (List ℕ)) (text : List ℕ) (ending : Ending) (is_part : Bool) → AreCounted taken
    → IsTakenByHosts (next_name taken text ending is_part)

-- a byte is printable ASCII, as each byte of a text form is
abbrev pub IsPrintableAscii : ℕ → Type 0
IsPrintableAscii byte = (32 ≤ byte) × (byte < 127)

-- a name made from printable ASCII is printable ASCII
abbrev pub NamesArePrinted : Type 0
NamesArePrinted = (taken : List (List ℕ)) (text : List ℕ) (ending : Ending) (is_part : Bool) → AreCounted taken
    → All IsPrintableAscii text → All IsPrintableAscii (next_name taken text ending is_part)

-- a name ends with these bytes
abbrev pub EndsWith : List ℕ → List ℕ → Type 0
EndsWith name end = (front : List ℕ) × (name ≡ front ++ end)

-- each name of a file keeps its ending, and `.part` after it
abbrev pub NamesKeepTheirEnding : Type 0
NamesKeepTheirEnding = (taken : List (List ℕ)) (text : List ℕ) (ending : Ending) (is_part : Bool)
    → EndsWith (next_name taken text ending is_part) (tail ending is_part)

-- no file gets a name that is taken
abbrev pub NamesAreFree : Type 0
NamesAreFree = (taken : List (List ℕ)) (text : List ℕ) (ending : Ending) (is_part : Bool) → AreCounted taken
    → is_taken taken (next_name taken text ending is_part) ≡ false

-- no two files of an image get the same name
abbrev pub NoTwoNamesAreTheSame : Type 0
NoTwoNamesAreTheSame = (files : List Named) → length files < 2 ^ 63 → IsDistinct is_same_name (with_taken_names [] files)

-- the folders of a path lead down
abbrev pub FoldersLeadDown : Type 0
FoldersLeadDown = (path : List ℕ) → All StaysInFolder (folders_of path)

-- the folder of an image lies in the last of them, under either of its names
abbrev pub ImagesStayInTheirFolder : Type 0
ImagesStayInTheirFolder = (path : List ℕ) → StaysInFolder (image_name path) × StaysInFolder (partial_name path)
