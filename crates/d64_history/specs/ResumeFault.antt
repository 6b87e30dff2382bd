-- The faults of bytes that are no session file: they are read part by part, up to the first fault.
use Rattle.std.specs.Prelude.{ℕ, zero, suc, ◌+◌, ◌*◌, ◌==◌, ◌||◌, ◌&&◌, not, nat_lt, nat_eq, if◌then◌else◌, Bool, true, Option, Some, None, Result, Ok, Err, List, [], ◌∷◌, length, reverse, take, drop}
use Rattle.std.specs.Int.{Width, byte_len, w16, w64, from_le_bytes}
use Rattle.std.specs.List.{list_all}
use Rattle.std.specs.Cmp.Lexicographic.{pointwise}
use Rattle.std.specs.Simd.{first_chunks}
use Rattle.d64_image.specs.Disk.{Disk, Bytes}
use Rattle.d64_image.specs.declared.image.TheConstants.{BLOCK_BYTES}
use Rattle.d64_image.specs.Image.{blocks_of, sector_at}
use Rattle.d64_image.specs.Patch.{Kept, restored_image}
use Rattle.d64_history.specs.SessionFile.{magic}
use Rattle.d64_history.specs.declared.resume_fault.ResumeFault.{ResumeFault}
use Rattle.d64_history.specs.declared.resume_fault.ResumeFault.TheVariants.{NotSession, Truncated, Trailing, BadCursor, BadRecord, Memory}

-- the fault's number
abbrev pub resume_fault_number : ResumeFault → ℕ
resume_fault_number NotSession = 1
resume_fault_number Truncated = 2
resume_fault_number Trailing = 3
resume_fault_number BadCursor = 4
resume_fault_number BadRecord = 5
resume_fault_number (Memory error) = 6

-- what reading bytes gives: a part and the bytes after it, or the first fault
abbrev pub ReadPart : Type 0 → Type 0
ReadPart Part = Result (Part × Bytes) ResumeFault

-- reading goes on after a part without a fault
infixl 10 ◌>>=◌
abbrev pub ◌>>=◌ : {A B : Type 0} → Result A ResumeFault → (A → Result B ResumeFault) → Result B ResumeFault
(Ok part) >>= next = next part
(Err fault) >>= next = Err fault

-- reads n bytes
abbrev pub bytes_at : ℕ → Bytes → ReadPart Bytes
bytes_at count bytes = if nat_lt (length bytes) count then Err Truncated else Ok (take count bytes, drop count bytes)

-- reads a number, low byte first
abbrev pub number_at : Width → Bytes → ReadPart ℕ
number_at width bytes = do
  digits ← bytes_at (byte_len width) bytes
  Ok (from_le_bytes width digits.0, digits.1)

-- the bytes after those at the beginning of each session file
unfoldable pub after_magic : Bytes → Bytes → Result Bytes ResumeFault
after_magic [] bytes = Ok bytes
after_magic (byte ∷ others) [] = Err Truncated
after_magic (byte ∷ others) (first ∷ bytes) = if first == byte then after_magic others bytes else Err NotSession

-- a value, or the fault of bytes that are no session file
abbrev pub or_not_session : {A : Type 0} → Option A → Result A ResumeFault
or_not_session None = Err NotSession
or_not_session (Some part) = Ok part

-- reads how many blocks the image has, by the number of the disk's tracks
unfoldable pub block_count_at : Bytes → ReadPart ℕ
block_count_at [] = Err Truncated
block_count_at (tracks ∷ bytes) = do
  blocks ← or_not_session (blocks_of tracks)
  Ok (blocks, bytes)

-- reads the beginning and the image
unfoldable pub image_at : Bytes → ReadPart Disk
image_at bytes = do
  rest ← after_magic magic bytes
  blocks ← block_count_at rest
  content ← bytes_at (blocks.0 * BLOCK_BYTES) blocks.1
  Ok (first_chunks BLOCK_BYTES blocks.0 content.0, content.1)

-- reads how many records are done, and how many there are
unfoldable pub counts_at : Bytes → ReadPart (ℕ × ℕ)
counts_at bytes = do
  done ← number_at w64 bytes
  count ← number_at w64 done.1
  if nat_lt count.0 done.0 then Err BadCursor else Ok ((done.0, count.0), count.1)

-- reads the index of a block, from a number on, of an image of n blocks
unfoldable pub index_at : ℕ → ℕ → Bytes → ReadPart ℕ
index_at blocks low bytes = do
  index ← number_at w16 bytes
  if nat_lt index.0 low || not (nat_lt index.0 blocks) then Err BadRecord else Ok index

-- reads the index of such a block, and its bytes
unfoldable pub read_block_at : ℕ → ℕ → Bytes → ReadPart (ℕ × Bytes)
read_block_at blocks low bytes = do
  index ← index_at blocks low bytes
  content ← bytes_at BLOCK_BYTES index.1
  Ok ((index.0, content.0), content.1)

-- reads a number of blocks, ascending from a number on
unfoldable pub blocks_at : ℕ → ℕ → ℕ → Bytes → ReadPart Kept
blocks_at blocks zero low bytes = Ok ([], bytes)
blocks_at blocks (suc count) low bytes = do
  first ← read_block_at blocks low bytes
  others ← blocks_at blocks count (first.0.0 + 1) first.1
  Ok (first.0 ∷ others.0, others.1)

-- reads a record: how many blocks it has, and these
unfoldable pub record_file_at : ℕ → Bytes → ReadPart Kept
record_file_at blocks bytes = do
  count ← number_at w16 bytes
  blocks_at blocks count.0 0 count.1

-- reads a number of records of an image of n blocks
unfoldable pub records_at : ℕ → ℕ → Bytes → ReadPart (List Kept)
records_at blocks zero bytes = Ok ([], bytes)
records_at blocks (suc count) bytes = do
  first ← record_file_at blocks bytes
  others ← records_at blocks count first.1
  Ok (first.0 ∷ others.0, others.1)

-- the parts of a session file
pub record Parts : Type 0 where
  pub image : Disk
  pub done : ℕ
  pub records : List Kept

-- reads all parts in order, with no bytes after them
unfoldable pub parts_at : Bytes → Result Parts ResumeFault
parts_at bytes = do
  image ← image_at bytes
  counts ← counts_at image.1
  records ← records_at (length image.0) counts.0.1 counts.1
  if length records.1 == 0 then Ok (record { image = image.0; done = counts.0.0; records = records.0 }) else Err Trailing

-- whether each block of a record differs from that of an image
unfoldable pub all_differ : Disk → Kept → Bool
all_differ image patch = list_all (λ entry. not (pointwise nat_eq entry.1 (sector_at image entry.0))) patch

-- whether each block of records that lead away from an image differs from the image's right before
-- its record is put back
unfoldable pub differ_along : Disk → List Kept → Bool
differ_along image [] = true
differ_along image (patch ∷ patches) = all_differ image patch && differ_along (restored_image image patch) patches

-- whether each block of the records differs from the image's right before its record is put back,
-- both ways from the present image: back along those that are done, and on along the others
abbrev pub lead_both_ways : Disk → ℕ → List Kept → Bool
lead_both_ways image done records = differ_along image (reverse (take done records)) && differ_along image (drop done records)

-- the parts of a file whose records pass that test
unfoldable pub session_at : Bytes → Result Parts ResumeFault
session_at bytes = do
  parts ← parts_at bytes
  if lead_both_ways parts.image parts.done parts.records then Ok parts else Err BadRecord

-- the fault that was found; None if there was no fault
abbrev pub fault_in : {A : Type 0} → Result A ResumeFault → Option ResumeFault
fault_in (Ok parts) = None
fault_in (Err fault) = Some fault

-- the first fault of bytes that are no session file; None if they are one
abbrev pub first_resume_fault : Bytes → Option ResumeFault
first_resume_fault bytes = fault_in (session_at bytes)

-- the fault that a refusal reports; if memory was out, the one that would have been reported
abbrev pub reported_by : ResumeFault → Option ResumeFault → Option ResumeFault
reported_by NotSession other = Some NotSession
reported_by Truncated other = Some Truncated
reported_by Trailing other = Some Trailing
reported_by BadCursor other = Some BadCursor
reported_by BadRecord other = Some BadRecord
reported_by (Memory error) other = other

-- the fault for which bytes were refused; None if they were accepted; if memory was out, the one
-- that would have been reported
abbrev pub resume_refused_by : {A : Type 0} → Result A ResumeFault → Option ResumeFault → Option ResumeFault
resume_refused_by (Ok session) other = None
resume_refused_by (Err fault) other = reported_by fault other
