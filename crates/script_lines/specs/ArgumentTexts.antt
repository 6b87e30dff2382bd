-- The values of the arguments of a line, as the code reads them.
use Rattle.std.specs.Prelude.{◌≡◌, ◌⊎◌, List, ◌∷◌, ◌++◌, Bool, Vec, Result, Ok, Err}
use Rattle.d64_image.specs.Disk.{Bytes}
use Rattle.std.specs.Borrow.{Bor}
use Rattle.std.specs.List.{AllZip}
use Rattle.d64_files.specs.declared.kind.Kind.{Kind}
use Rattle.script_lines.specs.declared.status.Status.{Status}
use Rattle.script_lines.specs.declared.status.Status.TheVariants.{BadName, OutOfMemory}
use Rattle.script_lines.specs.Act.{IsSpelled}

-- a text that was returned, as its bytes
abbrev pub texts : {E : Type 0} → Result (Bor Bytes) E → Result Bytes E
texts (Ok text) = Ok text.now
texts (Err fault) = Err fault

-- a text and a kind that were returned, the text as its bytes
abbrev pub name_and_kind : {E : Type 0} → Result (Bor Bytes × Kind) E → Result (Bytes × Kind) E
name_and_kind (Ok file) = Ok (file.0.now, file.1)
name_and_kind (Err fault) = Err fault

-- a vector that was returned, as its list
abbrev pub items : {T A E : Type 0} → Result (Vec T A) E → Result (List T) E
items (Ok values) = Ok values.items
items (Err fault) = Err fault

-- an argument was read: the bytes that it stands for, which pass a test; or it stands for no such
-- bytes, or memory was out
abbrev pub Reads : (Bytes → Bool) → Bytes → Result Bytes Status → Type 0
Reads test argument (Ok bytes) = IsSpelled test argument bytes
Reads test argument (Err status) =
    ((status ≡ BadName) × ((bytes : Bytes) → IsSpelled test argument bytes → ⊥)) ⊎ (status ≡ OutOfMemory)

-- arguments were read from left to right: the bytes that each stands for, which pass a test; or
-- some were, and the next was not
abbrev pub ReadsEach : (Bytes → Bool) → List Bytes → Result (List Bytes) Status → Type 0
ReadsEach test arguments (Ok texts) = AllZip (IsSpelled test) arguments texts
ReadsEach test arguments (Err status) =
    (before : List Bytes) × (texts : List Bytes) × (argument : Bytes) × (more : List Bytes)
    × (arguments ≡ before ++ argument ∷ more) × AllZip (IsSpelled test) before texts × Reads test argument (Err status)
