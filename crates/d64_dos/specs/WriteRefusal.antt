-- When writing a file is refused.
use Rattle.std.specs.Prelude.{ℕ, nat_le, ◌&&◌, ◌||◌, not, true, false, Bool, if◌then◌else◌, Option, Some, None, is_some}
use Rattle.std.specs.Option.{option_or}
use Rattle.d64_image.specs.Disk.{Disk, Bytes}
use Rattle.d64_map.specs.Map.{free_blocks}
use Rattle.d64_map.specs.Plan.{room}
use Rattle.d64_files.specs.Directory.{slots, is_name_taken}
use Rattle.d64_files.specs.Writing.{blocks_for, first_unused, dir_last}
use Rattle.d64_effects.specs.Write.{next_of_directory}
use Rattle.d64_files.specs.declared.kind.Kind.{Kind}
use Rattle.d64_files.specs.declared.kind.Kind.TheVariants.{Del, Rel}
use Rattle.d64_dos.specs.FileRefusals.{unsound_refusal}
use Rattle.d64_dos.specs.declared.refusal.Refusal.{Refusal}
use Rattle.d64_dos.specs.declared.refusal.Refusal.TheVariants.{Exists, WrongType, DiskFull}

-- SEQ, PRG and USR can be written
abbrev pub is_writable : Kind → Bool
is_writable Del = false
is_writable Rel = false
is_writable kind = true

-- room for a file's n bytes and its entry
abbrev pub has_room : Disk → ℕ → Bool
has_room image bytes =
    nat_le (blocks_for bytes) (room (free_blocks image))
    && (is_some (first_unused (slots image)) || is_some (next_of_directory (free_blocks image) (dir_last image)))

-- the first refusal that applies: by the kind, an unsound image, the name, lack of room
unfoldable pub write_refusal : Disk → Bytes → Kind → ℕ → Option Refusal
write_refusal image name kind bytes =
    if not (is_writable kind)
    then Some WrongType
    else option_or (unsound_refusal image)
    (if is_name_taken name (slots image) then Some Exists else (if has_room image bytes then None else Some DiskFull))
