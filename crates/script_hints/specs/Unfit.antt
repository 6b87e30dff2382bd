-- Why no session begins with a file.
use Rattle.std.specs.Prelude.{◌≡◌, ◌==◌, ◌||◌, nat_eq, if◌then◌else◌, ℕ, List, ◌++◌, length, Option, Some, Result, Ok, Err, codes}
use Rattle.std.specs.List.{starts_with}
use Rattle.std.specs.Option.{option_map_or}
use Rattle.d64_image.specs.Disk.{Bytes}
use Rattle.host_storage.specs.Files.{Files}
use Rattle.host_storage.specs.declared.host.HostFault.{HostFault}
use Rattle.program_console.specs.Reasons.{IsReason, reason_text}
use Rattle.program_console.specs.declared.reason.Reason.{Reason}
use Rattle.out_messages.specs.FaultLines.{line_about}
use Rattle.out_messages.specs.Guesses.{guess_of, guess_text}
use Rattle.out_messages.specs.Words.{counted_text}

-- what came of a file: its bytes, or its fault
abbrev pub FetchedFile : Type 0
FetchedFile = Result Bytes HostFault

-- what came of a file of the code, as one of the definitions
abbrev pub fetched_by : {B : Type 0} → (B → Bytes) → Result B HostFault → FetchedFile
fetched_by bytes_of (Ok bytes) = Ok (bytes_of bytes)
fetched_by bytes_of (Err fault) = Err fault

-- a file for which there is no guess, by its length: an image with one more byte for each block, or
-- no image at all
abbrev pub look_by_length : ℕ → List ℕ
look_by_length len = if len == 175531 || len == 197376 then codes "an image with error bytes" else codes "not a disk image"

-- such a file, which may be a session
abbrev pub other_look : Bytes → List ℕ
other_look bytes = if starts_with nat_eq bytes (codes "D64S") then codes "a session file, which d64sh shell --resume takes" else look_by_length (length bytes)

-- what a file looks like whose length no image has
abbrev pub look_of : Bytes → List ℕ
look_of bytes = option_map_or guess_text (guess_of bytes) (other_look bytes)

-- what is said about a file with these bytes
unfoldable pub unfit_text : Bytes → List ℕ
unfit_text bytes =
    look_of bytes ++ (codes ", " ++ (counted_text (length bytes) (codes "byte") ++ codes "; d64sh edits images of 174848 and 196608 bytes"))

-- the line says why no session begins with the file of this name, on a host with these files
abbrev pub IsUnfitLine : Option Files → Bytes → FetchedFile → List ℕ → Type 0
IsUnfitLine files name (Ok bytes) line = line ≡ line_about name (unfit_text bytes)
IsUnfitLine files name (Err fault) line = (reason : Reason) × IsReason files name fault (Some reason) × (line ≡ line_about name (reason_text reason))
