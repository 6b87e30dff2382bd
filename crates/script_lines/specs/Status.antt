-- The status lines that a script prints.
use Rattle.std.specs.Prelude.{ℕ, nat_lt, Bool, if◌then◌else◌, List, [], ◌++◌, codes, unwrap_or}
use Rattle.std.specs.Fmt.{decimal}
use Rattle.cbm_text.specs.BasicText as texts
use Rattle.cbm_text.specs.ListFault.{list_fault_number}
use Rattle.d64_files.specs.Directory.{condition_number}
use Rattle.host_storage.specs.Host.{fault_number}
use Rattle.script_lines.specs.declared.status.Status.{Status}
use Rattle.script_lines.specs.declared.status.Status.TheVariants.{Done, FilesScratched, SyntaxError, UnknownCommand, LongLine, BadName, MissingArgument, WriteFileOpen, FileNotFound, FileExists, FileTypeMismatch, IllegalBlock, DirectoryError, DiskFull, HostFile, NothingToUndo, NothingToRedo, NotOneBlock, BasicText, NotBasic, FileLost, OutOfMemory}

-- a status's number and text
abbrev pub status_row : Status → ℕ × List ℕ
status_row Done = (0, codes " OK")
status_row (FilesScratched count) = (1, codes "FILES SCRATCHED")
status_row SyntaxError = (30, codes "SYNTAX ERROR")
status_row UnknownCommand = (31, codes "SYNTAX ERROR")
status_row LongLine = (32, codes "SYNTAX ERROR")
status_row BadName = (33, codes "SYNTAX ERROR")
status_row MissingArgument = (34, codes "SYNTAX ERROR")
status_row WriteFileOpen = (60, codes "WRITE FILE OPEN")
status_row FileNotFound = (62, codes "FILE NOT FOUND")
status_row FileExists = (63, codes "FILE EXISTS")
status_row FileTypeMismatch = (64, codes "FILE TYPE MISMATCH")
status_row (IllegalBlock track sector) = (66, codes "ILLEGAL TRACK AND SECTOR")
status_row (DirectoryError fault) = (71, codes "DIR ERROR")
status_row DiskFull = (72, codes "DISK FULL")
status_row (HostFile fault) = (80, codes "HOST FILE")
status_row NothingToUndo = (81, codes "NOTHING TO UNDO")
status_row NothingToRedo = (82, codes "NOTHING TO REDO")
status_row NotOneBlock = (83, codes "NOT ONE BLOCK")
status_row (BasicText fault) = (84, codes "BASIC TEXT")
status_row (NotBasic fault) = (85, codes "NOT BASIC")
status_row FileLost = (86, codes "FILE LOST")
status_row OutOfMemory = (90, codes "OUT OF MEMORY")

-- the last two numbers of a status line
abbrev pub status_details : Status → ℕ × ℕ
status_details (FilesScratched count) = (count, 0)
status_details (IllegalBlock track sector) = (track, sector)
status_details (DirectoryError fault) = (condition_number fault, 0)
status_details (HostFile fault) = (fault_number fault, 0)
status_details (BasicText fault) = (texts.basic_fault_number fault, unwrap_or (texts.basic_fault_line fault) 0)
status_details (NotBasic fault) = (list_fault_number fault, 0)
status_details _ = (0, 0)

-- a number in decimal with at least two digits
unfoldable pub two_digits : ℕ → List ℕ
two_digits n = (if nat_lt n 10 then codes "0" else []) ++ decimal n

-- the line of a status, with its LF
unfoldable pub status_line : Status → List ℕ
status_line status =
    two_digits (status_row status).0 ++ codes "," ++ (status_row status).1
    ++ codes "," ++ two_digits (status_details status).0
    ++ codes "," ++ two_digits (status_details status).1
    ++ codes "\n"

-- whether a line with this status was accepted
abbrev pub is_accepted : Status → Bool
is_accepted status = nat_lt (status_row status).0 30
