-- Dumps: an image and, if they were noted, the read codes of its blocks.
use Rattle.std.specs.Prelude.{◌≡◌, ℕ, ◌+◌, ◌==◌, ◌&&◌, nat_le, not, Bool, if◌then◌else◌, [], ◌∷◌, ◌++◌, length, Option, Some, None, Result, Ok, Err}
use Rattle.std.specs.Option.{option_map_or}
use Rattle.d64_image.specs.Disk.{Disk, Bytes}
use Rattle.d64_image.specs.Image.{IsImage, bytes_of}
use Rattle.d64_image.specs.declared.image.ImageFault.{ImageFault}
use Rattle.d64_image.specs.declared.image.ImageFault.TheVariants as image_faults
use Rattle.d64_survey.specs.declared.dump.DumpFault.{DumpFault}
use Rattle.d64_survey.specs.declared.dump.DumpFault.TheVariants.{WrongLength, Memory}

-- an image, and the read codes of its blocks in order, if it has any
pub record DumpView : Type 0 where
  pub image : Disk
  pub codes : Option Bytes

-- each block of the image has a code
abbrev pub HasCodes : Disk → Option Bytes → Type 0
HasCodes image None = Unit {0}
HasCodes image (Some codes) = length codes ≡ length image

-- some bytes as codes; None if there are no bytes
abbrev pub codes_in : Bytes → Option Bytes
codes_in [] = None
codes_in (code ∷ codes) = Some (code ∷ codes)

-- a dump is an image with a code for each of its blocks, or with no code
abbrev pub IsDump : DumpView → Type 0
IsDump dump = IsImage dump.image × HasCodes dump.image dump.codes

-- the bytes of the codes
abbrev pub code_bytes : Option Bytes → Bytes
code_bytes codes = option_map_or (λ bytes. bytes) codes []

-- the bytes of a dump: those of its image, and then the codes
abbrev pub dump_bytes : DumpView → Bytes
dump_bytes dump = bytes_of dump.image ++ code_bytes dump.codes

-- how many bytes the image has in a dump of n bytes, without codes or with them; None if no dump
-- has n bytes
abbrev pub image_bytes : ℕ → Option ℕ
image_bytes len =
    if len == 174848 then Some 174848
    else (if len == 175531 then Some 174848
    else (if len == 196608 then Some 196608
    else (if len == 197376 then Some 196608 else None)))

-- the fault of bytes that make no dump, by that of their image
abbrev pub dump_fault : ImageFault → DumpFault
dump_fault (image_faults.WrongLength length) = WrongLength length
dump_fault (image_faults.Memory fault) = Memory fault

-- the length for which bytes were refused; None if they made a dump, or there was no memory
abbrev pub wrong_dump_length : {A : Type 0} → Result A DumpFault → Option ℕ
wrong_dump_length (Ok dump) = None
wrong_dump_length (Err (WrongLength length)) = Some length
wrong_dump_length (Err (Memory fault)) = None

-- whether a code is that of a read error: it is neither 0 nor 1
abbrev pub is_read_error : ℕ → Bool
is_read_error code = not (nat_le code 1)

-- the drive's status for a read code: 20 to 29 for 2 to 11, and 74 for 15; None for the others
abbrev pub drive_status : ℕ → Option ℕ
drive_status code =
    if nat_le 2 code && nat_le code 11 then Some (code + 18)
    else (if code == 15 then Some 74 else None)
