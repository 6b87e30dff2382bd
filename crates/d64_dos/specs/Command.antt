-- The commands' effects, and when they are refused: a table with a row for each command.
use Rattle.std.specs.Prelude.{◌≡◌, ℕ, ◌<◌, true, Bool, List, length, filter, Option, None, Some, IsSome, MatchOption}
use Rattle.d64_image.specs.Disk.{Disk, Bytes}
use Rattle.d64_image.specs.Image.{with_sector}
use Rattle.d64_effects.specs.Contents.{names_and_contents}
use Rattle.d64_effects.specs.ContentsAfter.{is_scratched_row}
use Rattle.d64_effects.specs.Delete.{scratched_disk, scratched_count}
use Rattle.d64_effects.specs.DiskName.{named_disk}
use Rattle.d64_effects.specs.Format.{formatted_disk}
use Rattle.d64_effects.specs.Rename.{renamed_disk}
use Rattle.d64_effects.specs.Validate.{validated_disk}
use Rattle.d64_effects.specs.View.{View, IsSound, view}
use Rattle.d64_effects.specs.ViewAfter.{formatted_view, written_view, scratched_view, renamed_view, named_view, validated_view}
use Rattle.d64_effects.specs.Write.{written_disk}
use Rattle.d64_dos.specs.Change.{Change, Format, Write, Delete, Undelete, Rename, Name, Validate, BlockWrite}
use Rattle.d64_dos.specs.FileRefusals.{unsound_refusal, rename_refusal, validate_refusal}
use Rattle.d64_dos.specs.Undelete.{undelete_refusal, disk_with_file_back, view_with_file_back}
use Rattle.d64_dos.specs.WriteRefusal.{write_refusal}
use Rattle.d64_dos.specs.declared.command.Reply.{Reply}
use Rattle.d64_dos.specs.declared.command.Reply.TheVariants.{Done, Scratched}
use Rattle.d64_dos.specs.declared.refusal.Refusal.{Refusal}

-- the disks for which a promise holds, if the command is accepted
pub data Start : Type 0 where
  AnyDisk : Start
  SoundDisk : Start

-- what a file command promises: the disks for which the promise holds, the reply by what the disk
-- shows, and what the disk shows afterwards, for which only an undeletion needs the disk itself
pub record Promise : Type 0 where
  pub start : Start
  pub reply : View → Reply
  pub shows : Disk → View → View

-- a command: for an image its first refusal, the image after it, with each byte that it doesn't
-- name unchanged, and the reply; and the block that it names, if any
pub record Row : Type 0 where
  pub refusal : Disk → Option Refusal
  pub effect : Disk → Disk
  pub reply : Disk → Reply
  pub block : Option ℕ

-- how many files of the directory's list patterns delete
abbrev pub scratched_of : View → List Bytes → ℕ
scratched_of shown patterns = length (filter (is_scratched_row patterns) (names_and_contents shown))

-- the table of commands
abbrev pub row : Change → Row
row (Format name id) = record {
  refusal = λ image. None;
  effect = λ image. formatted_disk (length image) name id;
  reply = λ image. Done;
  block = None;
}
row (Write name kind bytes) = record {
  refusal = λ image. write_refusal image name kind (length bytes);
  effect = λ image. written_disk image name kind bytes;
  reply = λ image. Done;
  block = None;
}
row (Delete patterns) = record {
  refusal = unsound_refusal;
  effect = λ image. scratched_disk image patterns;
  reply = λ image. Scratched (scratched_count image patterns);
  block = None;
}
row (Undelete name kind) = record {
  refusal = λ image. undelete_refusal image name kind;
  effect = λ image. disk_with_file_back image name kind;
  reply = λ image. Done;
  block = None;
}
row (Rename old new) = record {
  refusal = λ image. rename_refusal image old new;
  effect = λ image. renamed_disk image old new;
  reply = λ image. Done;
  block = None;
}
row (Name name id) = record {
  refusal = λ image. None;
  effect = λ image. named_disk image name id;
  reply = λ image. Done;
  block = None;
}
row Validate = record {
  refusal = validate_refusal;
  effect = validated_disk;
  reply = λ image. Done;
  block = None;
}
row (BlockWrite at block) = record {
  refusal = λ image. None;
  effect = λ image. with_sector image at block;
  reply = λ image. Done;
  block = Some at;
}

-- what a command promises of the disk's files; a command that is no file command promises nothing
abbrev pub promise_of : Change → Option Promise
promise_of (Format name id) = Some (record { start = AnyDisk; reply = λ old. Done; shows = λ image old. formatted_view old.count name id })
promise_of (Write name kind bytes) = Some (record { start = SoundDisk; reply = λ old. Done; shows = λ image old. written_view old name kind bytes })
promise_of (Delete patterns) =
    Some (record { start = SoundDisk; reply = λ old. Scratched (scratched_of old patterns); shows = λ image old. scratched_view old patterns })
promise_of (Undelete name kind) = Some (record { start = SoundDisk; reply = λ old. Done; shows = λ image old. view_with_file_back image old name kind })
promise_of (Rename old new) = Some (record { start = SoundDisk; reply = λ shown. Done; shows = λ image shown. renamed_view shown old new })
promise_of (Name name id) = Some (record { start = SoundDisk; reply = λ shown. Done; shows = λ image shown. named_view shown name id })
promise_of Validate = Some (record { start = AnyDisk; reply = λ old. Done; shows = λ image old. validated_view old })
promise_of (BlockWrite at block) = None

-- None if the command is accepted
abbrev pub refusal_of : Disk → Change → Option Refusal
refusal_of image change = (row change).refusal image

abbrev pub image_after : Disk → Change → Disk
image_after image change = (row change).effect image

-- the reply to an accepted command
abbrev pub reply_to : Disk → Change → Reply
reply_to image change = (row change).reply image

-- the image has the block that a command names
abbrev pub IsWithin : Disk → Change → Type 0
IsWithin image change = MatchOption (row change).block (Unit {0}) (λ block. block < length image)

-- the command changes the files of a disk; a block write promises nothing of them
abbrev pub IsFileCommand : Change → Type 0
IsFileCommand change = IsSome (promise_of change)

-- an accepted command leaves a sound disk, by whether the disk before is known to be sound: each
-- file command does, but a disk that gets a name stays sound or not as it was
abbrev pub LeavesSound : Change → Bool → Type 0
LeavesSound (Name name id) known = known ≡ true
LeavesSound change known = IsFileCommand change

-- the images for which a promise holds
abbrev pub IsStart : Start → Disk → Type 0
IsStart AnyDisk image = Unit {0}
IsStart SoundDisk image = IsSound image

-- the images for which a file command promises to leave a sound disk
abbrev pub StartsFrom : Change → Disk → Type 0
StartsFrom change image = MatchOption (promise_of change) ⊥ (λ promise. IsStart promise.start image)

-- what a disk shows before a file command, the reply, and what it shows after it
abbrev pub ViewStep : Disk → Change → Reply → View → Type 0
ViewStep image change reply new =
    MatchOption (promise_of change) ⊥ (λ promise. (reply ≡ promise.reply (view image)) × (new ≡ promise.shows image (view image)))
