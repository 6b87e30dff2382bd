-- Why a file could not be read or written, for people.
use Rattle.std.specs.Prelude.{◌≡◌, ◌==◌, if◌then◌else◌, ℕ, ◌-◌, List, [], ◌++◌, length, take, codes, Option, Some, None, option_map}
use Rattle.host_storage.specs.Files.{Files}
use Rattle.host_storage.specs.Obstacles.{LooksFor, LooksToWrite}
use Rattle.host_storage.specs.declared.host.HostFault.{HostFault}
use Rattle.host_storage.specs.declared.host.HostFault.TheVariants as faults
use Rattle.host_storage.specs.declared.host.Obstacle.{Obstacle}
use Rattle.host_storage.specs.declared.host.Obstacle.TheVariants as obstacles
use Rattle.host_storage.specs.declared.host.WriteObstacle.{WriteObstacle}
use Rattle.host_storage.specs.declared.host.WriteObstacle.TheVariants as write_obstacles
use Rattle.program_console.specs.declared.reason.Reason.{Reason}
use Rattle.program_console.specs.declared.reason.Reason.TheVariants.{NoSuchFile, Folder, NoPermission, NamedPipe, TooLong, NotUtf8, ListedNameTooLong, NoFolder, NotFolder, FolderThere, NameTooLong, ReadOnly, Full}

-- a reason in plain words
abbrev pub reason_text : Reason → List ℕ
reason_text NoSuchFile = codes "no such file"
reason_text Folder = codes "a folder"
reason_text NoPermission = codes "no permission"
reason_text NamedPipe = codes "a named pipe"
reason_text TooLong = codes "longer than 16 MiB"
reason_text NotUtf8 = codes "its name is not UTF-8"
reason_text ListedNameTooLong = codes "its name has more than 4096 bytes"
reason_text NoFolder = codes "no such folder"
reason_text NotFolder = codes "not a folder"
reason_text FolderThere = codes "a folder is there"
reason_text NameTooLong = codes "its name is too long"
reason_text ReadOnly = codes "the disk is read-only"
reason_text Full = codes "the disk is full"

-- what can be done, if the reason does not make it plain
abbrev pub hint_of : Reason → List ℕ
hint_of Folder = codes "; check, files, extract and catalogue take the images in it: find FOLDER -name '*.d64' | d64sh check --files-from -"
hint_of NamedPipe = codes "; store what comes by it in a file"
hint_of reason = []

-- the reason for an obstacle at a path
abbrev pub reason_of_obstacle : Obstacle → Reason
reason_of_obstacle obstacles.Nothing = NoSuchFile
reason_of_obstacle obstacles.Folder = Folder
reason_of_obstacle obstacles.NoPermission = NoPermission
reason_of_obstacle obstacles.NamedPipe = NamedPipe

-- why a file with this name was refused with this fault, as far as a host with these files can say:
-- by the fault itself, or by what is at the path if the fault is the device's
abbrev pub IsReason : Option Files → List ℕ → HostFault → Option Reason → Type 0
IsReason files name faults.Missing reason = reason ≡ Some NoSuchFile
IsReason files name faults.TooLong reason = reason ≡ Some TooLong
IsReason files name faults.Device reason =
    (seen : Option Obstacle) × LooksFor files name seen × (reason ≡ option_map reason_of_obstacle seen)
IsReason files name (faults.Memory error) reason = reason ≡ None

-- the reason for an obstacle that keeps a path from being written
abbrev pub reason_of_write_obstacle : WriteObstacle → Reason
reason_of_write_obstacle write_obstacles.NoFolder = NoFolder
reason_of_write_obstacle write_obstacles.NotFolder = NotFolder
reason_of_write_obstacle write_obstacles.Folder = FolderThere
reason_of_write_obstacle write_obstacles.NoPermission = NoPermission
reason_of_write_obstacle write_obstacles.LongName = NameTooLong
reason_of_write_obstacle write_obstacles.ReadOnly = ReadOnly
reason_of_write_obstacle write_obstacles.Full = Full

-- why a write at this path was refused, as far as a host with these files can say
abbrev pub IsWriteReason : Option Files → List ℕ → Option Reason → Type 0
IsWriteReason files path reason =
    (seen : Option WriteObstacle) × LooksToWrite files path seen × (reason ≡ option_map reason_of_write_obstacle seen)

-- a line with the reason in brackets before its line feed; an empty line stays empty
abbrev pub with_reason : Reason → List ℕ → List ℕ
with_reason reason line =
    if length line == 0 then line
    else take (length line - 1) line ++ (codes " (" ++ (reason_text reason ++ (hint_of reason ++ codes ")\n")))

-- a line with the reason in brackets, if that is known
abbrev pub with_known_reason : Option Reason → List ℕ → List ℕ
with_known_reason None line = line
with_known_reason (Some reason) line = with_reason reason line
