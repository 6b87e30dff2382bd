-- The results of the calls that read a session file.
use Rattle.std.specs.Prelude.{◌≡◌, ℕ, ◌<◌, ◌≤◌, ◌^◌, if◌then◌else◌, All, Bool, Option, Some, None, List, ◌∷◌, ◌++◌, length, reverse, take, drop, Result, Ok, Err}
use Rattle.std.specs.Int.{w64, to_le_bytes}
use Rattle.std.specs.List.{flat_map}
use Rattle.d64_image.specs.Disk.{Disk, Bytes}
use Rattle.d64_image.specs.Image.{IsImage, tracks_of, bytes_of}
use Rattle.d64_image.specs.Patch.{Kept, IsPatchOf, HaveBlocks}
use Rattle.d64_history.specs.SessionFile.{magic, record_file}
use Rattle.d64_history.specs.ResumeFault.{◌>>=◌, ReadPart, image_at, counts_at}
use Rattle.d64_history.specs.declared.resume_fault.ResumeFault.{ResumeFault}
use Rattle.d64_history.specs.declared.resume_fault.ResumeFault.TheVariants.{NotSession, Truncated, Trailing, BadCursor, BadRecord, Memory}
use Rattle.d64_history.specs.declared.file_parts.FileParts.{FileParts}

-- a fault is the one that is found, unless memory was out
abbrev pub Fails : {Part : Type 0} → ResumeFault → Result Part ResumeFault → Type 0
Fails NotSession reading = reading ≡ Err NotSession
Fails Truncated reading = reading ≡ Err Truncated
Fails Trailing reading = reading ≡ Err Trailing
Fails BadCursor reading = reading ≡ Err BadCursor
Fails BadRecord reading = reading ≡ Err BadRecord
Fails (Memory error) reading = Unit {0}

-- a result, as definitions see it, is what is read, unless memory was out
abbrev pub Gives : {Value Part : Type 0} → (Value → Part) → Result Value ResumeFault → Result Part ResumeFault → Type 0
Gives seen (Ok value) reading = reading ≡ Ok (seen value)
Gives seen (Err fault) reading = Fails fault reading

-- the bytes of a session file before its records
abbrev pub start_file : Disk → ℕ → ℕ → Bytes
start_file image done count = magic ++ tracks_of (length image) ∷ bytes_of image ++ to_le_bytes w64 done ++ to_le_bytes w64 count

-- reads what comes before the records: the image, how many records are done, and how many there are
abbrev pub start_at : Bytes → ReadPart (Disk × (ℕ × ℕ))
start_at bytes = do
  image ← image_at bytes
  counts ← counts_at image.1
  Ok ((image.0, counts.0), counts.1)

-- what was read before the records
abbrev pub start_seen : FileParts → Disk × (ℕ × ℕ)
start_seen parts = (parts.image, (parts.done, parts.count))

-- the state of the parts that were read so far
pub record IsStarted (parts : FileParts) : Type 0 where
  pub image : IsImage parts.image
  pub done : parts.done ≤ parts.count
  pub count : parts.count < 2 ^ 64
  pub within : length parts.records ≤ parts.count
  pub patches : All (IsPatchOf parts.image) parts.records
  pub blocks : All HaveBlocks parts.records

abbrev pub AreStarted : Option FileParts → Type 0
AreStarted None = Unit {0}
AreStarted (Some parts) = IsStarted parts

-- the second bytes end with the first
abbrev pub IsEndOf : Bytes → Bytes → Type 0
IsEndOf rest bytes = (front : Bytes) × (bytes ≡ front ++ rest)

-- the bytes that were given: those of the parts that were read, and the rest
abbrev pub given_bytes : Option FileParts → Bytes → Bytes
given_bytes None rest = rest
given_bytes (Some parts) rest = start_file parts.image parts.done parts.count ++ (flat_map record_file parts.records ++ rest)

-- the records on one side of a place, outward: those after it in order, or those before it, the
-- last one first
abbrev pub on_side : Bool → List Kept → ℕ → List Kept
on_side is_back records number = if is_back then reverse (take number records) else drop number records
