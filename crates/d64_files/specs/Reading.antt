-- The content of a file, and why it can't be read.
use Rattle.std.specs.Prelude.{ℕ, not, Bool, true, false, if◌then◌else◌, [], slice_get, Option, Some, None, Result, Ok, Err, option_map}
use Rattle.std.specs.Option.{option_or, option_map_or}
use Rattle.d64_image.specs.Disk.{Disk, Bytes}
use Rattle.d64_files.specs.Slot.{is_used, is_closed, kind_of, first_pair}
use Rattle.d64_files.specs.Ownership.{chain_at}
use Rattle.d64_files.specs.Directory.{slots}
use Rattle.d64_files.specs.FirstFault.{is_nil, first_fault, reading_conditions}
use Rattle.d64_files.specs.FileData.{data_along}
use Rattle.d64_files.specs.declared.dir_fault.DirFault.TheVariants.{NoChain}
use Rattle.d64_files.specs.declared.kind.Kind.{Kind}
use Rattle.d64_files.specs.declared.kind.Kind.TheVariants.{Del}
use Rattle.d64_files.specs.declared.reading.ReadFault.{ReadFault}
use Rattle.d64_files.specs.declared.reading.ReadFault.TheVariants.{Directory, NotFound, NotClosed, WrongType, Memory}

abbrev pub is_del : Kind → Bool
is_del Del = true
is_del kind = false

-- why a slot's file can't be read: the first that applies
unfoldable pub file_refusal : Disk → Bytes → Option ReadFault
file_refusal image cell =
    if not (is_used cell) then Some NotFound
    else (if not (is_closed cell) then Some NotClosed
    else (if is_del (kind_of cell) then Some WrongType
    else (if is_nil (chain_at image (first_pair cell)) then Some (Directory NoChain) else None)))

-- the same, if there may be no slot
abbrev pub slot_refusal : Disk → Option Bytes → Option ReadFault
slot_refusal image None = Some NotFound
slot_refusal image (Some cell) = file_refusal image cell

-- why the content of a slot can't be read: first a fault of the directory, then one of the slot
unfoldable pub content_refusal : Disk → ℕ → Option ReadFault
content_refusal image slot = option_or (option_map Directory (first_fault image reading_conditions)) (slot_refusal image (slice_get (slots image) slot))

-- the data of the chain of a slot's file
abbrev pub file_content : Disk → Bytes → Bytes
file_content image cell = data_along image (chain_at image (first_pair cell))

-- the same by a slot's number; nothing if there is no such slot
abbrev pub content_at : Disk → ℕ → Bytes
content_at image slot = option_map_or (file_content image) (slice_get (slots image) slot) []

-- the error of a result, unless memory is out
abbrev pub read_refused_by : {A : Type 0} → Result A ReadFault → Option ReadFault
read_refused_by (Ok value) = None
read_refused_by (Err (Directory fault)) = Some (Directory fault)
read_refused_by (Err NotFound) = Some NotFound
read_refused_by (Err NotClosed) = Some NotClosed
read_refused_by (Err WrongType) = Some WrongType
read_refused_by (Err (Memory fault)) = None
