-- What else there is to say about a line that is typed.
use Rattle.std.specs.Prelude.{◌≡◌, ℕ, ◌==◌, ◌||◌, nat_le, Bool, false, if◌then◌else◌, [], ◌∷◌, ◌++◌, length, Option, Some, None, codes}
use Rattle.std.specs.Option.{option_map_or}
use Rattle.d64_image.specs.Disk.{Bytes, Disk}
use Rattle.d64_files.specs.Slot.{EntryView, is_locked, name_of}
use Rattle.out_messages.specs.Names.{quoted_name}
use Rattle.out_messages.specs.Words.{counted_text}
use Rattle.script_lines.specs.declared.status.Status.{Status}
use Rattle.script_lines.specs.declared.status.Status.TheVariants.{Done, FileNotFound, FilesScratched, SyntaxError, UnknownCommand}
use Rattle.script_lines.specs.LineCommand.{command_name, command_named}
use Rattle.script_lines.specs.declared.line_command.LineCommand.{LineCommand}
use Rattle.script_lines.specs.declared.line_command.LineCommand.TheVariants.{Delete, Format, Read, Undelete}
use Rattle.script_advice.specs.Found.{IsFound}
use Rattle.script_advice.specs.Hint.{hint_for}
use Rattle.script_advice.specs.LineParts.{LineParts}
use Rattle.script_advice.specs.Near.{near_command}
use Rattle.script_advice.specs.declared.found.Found.{Found}

-- where a byte comes from that no line has, if that is known
abbrev pub odd_byte_text : ℕ → Option Bytes
odd_byte_text byte =
    if byte == 9 then Some (codes "d64sh: the line has a tab\n")
    else if byte == 27 then Some (codes "d64sh: an arrow or another editing key was typed; rlwrap d64sh shell lets you edit lines\n")
    else if nat_le 128 byte then Some (codes "d64sh: the line has an umlaut or another character that is not ASCII\n")
    else None

-- where the first such byte comes from
abbrev pub odd_text : Bytes → Bytes
odd_text [] = []
odd_text (byte ∷ text) = option_map_or (λ what. what) (odd_byte_text byte) (odd_text text)

-- the name of a command that is near
unfoldable pub similar_text : Bytes → Bytes
similar_text name = codes "d64sh: a similar command is " ++ (name ++ codes "\n")

-- the command whose name is near
abbrev pub near_text : Option LineCommand → Bytes
near_text None = []
near_text (Some command) = similar_text (command_name command)

-- the file that has the name in other letters
unfoldable pub meant_text : Option EntryView → Bytes
meant_text None = []
meant_text (Some entry) = codes "d64sh: the disk has " ++ (quoted_name (name_of entry.bytes) ++ codes "; capital and small letters are different there\n")

-- that a file of the name was deleted
unfoldable pub restorable_text : Option EntryView → Bytes
restorable_text None = []
restorable_text (Some entry) = codes "d64sh: " ++ (quoted_name (name_of entry.bytes) ++ codes " was deleted; undelete may bring it back\n")

-- what is said if no file has the name
unfoldable pub missing_text : Found → Bytes
missing_text found = restorable_text found.deleted ++ meant_text found.respelled

-- why `delete` keeps a file
abbrev pub why_kept : Bytes → Bytes
why_kept slot = if is_locked slot then codes " is locked\n" else codes " was never closed; validate removes it\n"

-- why a file was not deleted, or that there is none
unfoldable pub kept_text : Option EntryView → Bytes
kept_text None = codes "the disk has no file of that name\n"
kept_text (Some entry) = quoted_name (name_of entry.bytes) ++ why_kept entry.bytes

-- why no file was deleted
unfoldable pub not_deleted_text : Found → Bytes
not_deleted_text found = codes "d64sh: nothing was deleted: " ++ (kept_text found.file ++ meant_text found.respelled)

-- a name begins with a full stop or a hyphen
abbrev pub is_in_the_way : Bytes → Bool
is_in_the_way [] = false
is_in_the_way (first ∷ more) = first == 46 || first == 45

-- the name under which a file was stored
unfoldable pub stored_text : Bytes → Bytes
stored_text name = codes "d64sh: the file was stored as " ++ (quoted_name name ++ codes "; read NAME HOST gives it another name\n")

-- the same, if it may be in the way there
abbrev pub place_text : Option EntryView → Bytes
place_text None = []
place_text (Some entry) = if is_in_the_way (name_of entry.bytes) then stored_text (name_of entry.bytes) else []

-- the verb after this many files
abbrev pub verb_of : ℕ → Bytes
verb_of files = if files == 1 then codes " is" else codes " are"

-- how many files, and the verb
abbrev pub files_are : ℕ → Bytes
files_are files = counted_text files (codes "file") ++ verb_of files

-- how many files are gone
unfoldable pub gone_text : ℕ → Bytes
gone_text files = codes "d64sh: " ++ (files_are files ++ codes " gone; undo brings the disk back\n")

-- what else there is to say about a line of a command that ended with a status, if its first
-- argument may mean these files, and the disk listed this many before
abbrev pub remark_by : Option LineCommand → Bytes → LineParts → Status → Found → ℕ → Bytes
remark_by command text parts SyntaxError found files = if parts.count == 0 then odd_text text else []
remark_by command text parts UnknownCommand found files = option_map_or (λ hint. []) (hint_for parts.command) (near_text (near_command parts.command))
remark_by (Some Undelete) text parts FileNotFound found files = []
remark_by command text parts FileNotFound found files = missing_text found
remark_by (Some Delete) text parts (FilesScratched count) found files = if count == 0 then not_deleted_text found else []
remark_by (Some Read) text parts Done found files = if length parts.second == 0 then place_text found.file else []
remark_by (Some Format) text parts Done found files = if files == 0 then [] else gone_text files
remark_by command text parts status found files = []

-- the same, by the line's own command
abbrev pub remark_of : Bytes → LineParts → Status → Found → ℕ → Bytes
remark_of text parts status found files = remark_by (command_named parts.command) text parts status found files

-- what else there is to say about a line that ended with a status and left an image, on a disk that
-- listed this many files before
abbrev pub IsRemark : Bytes → LineParts → Status → Disk → ℕ → Bytes → Type 0
IsRemark text parts status image files line = (found : Found) × IsFound image parts.first found × (line ≡ remark_of text parts status found files)
