-- What each line of a script asks for.
use Rattle.std.specs.Prelude.{◌≡◌, ℕ, nat_lt, List, [], ◌∷◌, length, true, ◌+◌, ◌==◌, if◌then◌else◌, Option, None, Some, MatchOption, ok_or}
use Rattle.d64_image.specs.Disk.{Bytes}
use Rattle.std.specs.Option.{option_map_or}
use Rattle.d64_files.specs.Name.{is_name}
use Rattle.d64_image.specs.Image.{sector_at, bytes_of}
use Rattle.d64_history.specs.History.{History, present_image, extended_history, undone_history, redone_history}
use Rattle.d64_history.specs.SessionFile.{file_of}
use Rattle.d64_dos.specs.Command.{image_after, reply_to, refusal_of}
use Rattle.d64_dos.specs.Listing.{listing_of}
use Rattle.d64_dos.specs.Reading.{directory_refusal, read_refusal}
use Rattle.d64_files.specs.Pattern.{is_pattern}
use Rattle.d64_files.specs.declared.kind.Kind.TheVariants.{Prg}
use Rattle.script_text.specs.Words.{words_of_line}
use Rattle.petscii.specs.Spelling.{spelling}
use Rattle.script_lines.specs.Arguments.{host_in, block_argument, at_comma, can_be_id, new_name, name_and_kind_in, name_and_kind_of}
use Rattle.script_lines.specs.FoundFile.{found_name, found_content, can_name_file}
use Rattle.script_lines.specs.FileText.{typed_text}
use Rattle.script_lines.specs.HistoryText.{history_text}
use Rattle.script_lines.specs.ListingText.{listing_text}
use Rattle.script_text.specs.RawLines.{text_of, is_too_long, is_skipped}
use Rattle.script_text.specs.Dump.{dump}
use Rattle.script_lines.specs.ArgumentCounts.{no_argument, one_argument, at_most_one, argument_and, some_arguments}
use Rattle.script_lines.specs.LineCommand.{command_named}
use Rattle.script_lines.specs.declared.line_command.LineCommand.{LineCommand}
use Rattle.script_lines.specs.declared.line_command.LineCommand.TheVariants as commands
use Rattle.script_lines.specs.Act.{Act, Give, Refuse, ◌>>=◌, ◌>>◌, value_or_refusal, need, Text, Fetch, Store, Crunch, Expand, Room, ask, each_text, Ending, plain_response, World, LineResponse, Does}
use Rattle.d64_dos.specs.Change.{Change}
use Rattle.d64_dos.specs.Change as changes
use Rattle.d64_dos.specs.declared.command.Reply.{Reply}
use Rattle.d64_dos.specs.declared.command.Reply.TheVariants as replies
use Rattle.d64_dos.specs.declared.refusal.Refusal.{Refusal}
use Rattle.d64_dos.specs.declared.refusal.Refusal.TheVariants as refusals
use Rattle.script_lines.specs.declared.status.Status.{Status}
use Rattle.script_lines.specs.declared.status.Status.TheVariants.{Done, FilesScratched, SyntaxError, UnknownCommand, LongLine, BadName, MissingArgument, WriteFileOpen, FileNotFound, FileExists, FileTypeMismatch, DirectoryError, DiskFull, NothingToUndo, NothingToRedo, NotOneBlock, FileLost, OutOfMemory}

abbrev pub status_of_refusal : Refusal → Status
status_of_refusal refusals.NotClosed = WriteFileOpen
status_of_refusal refusals.NotFound = FileNotFound
status_of_refusal refusals.Exists = FileExists
status_of_refusal refusals.WrongType = FileTypeMismatch
status_of_refusal (refusals.Directory fault) = DirectoryError fault
status_of_refusal refusals.Lost = FileLost
status_of_refusal refusals.DiskFull = DiskFull
status_of_refusal refusals.Memory = OutOfMemory

abbrev pub status_of_reply : Reply → Status
status_of_reply replies.Done = Done
status_of_reply (replies.Scratched count) = FilesScratched count

-- refuses with a refusal, if there is one
abbrev pub refuse_by : Option Refusal → Act (Unit {0})
refuse_by None = Give tt
refuse_by (Some refusal) = Refuse (status_of_refusal refusal)

-- accepts the line, and shows an output
abbrev pub show : Bytes → History → Act Ending
show output history = Give (record { response = record (plain_response Done) { output = output }; history = history })

-- accepts the line, and leaves a history
abbrev pub leave : History → Act Ending
leave history = Give (record { response = plain_response Done; history = history })

-- accepts the line once bytes are stored under a name of the host
abbrev pub put : History → Bytes → Bytes → Act Ending
put history name bytes = do
  ask (Store name bytes)
  leave history

-- a command given to the session: its first refusal, or its reply and one more image
abbrev pub run : History → Change → Act Ending
run history change = do
  refuse_by (refusal_of (present_image history) change)
  ask Room
  Give (record { response = plain_response (status_of_reply (reply_to (present_image history) change)); history = extended_history history (image_after (present_image history) change) })

-- `block`: shows a block
abbrev pub block_act : History → Bytes × Bytes → Act Ending
block_act history (track, sector) = do
  block ← value_or_refusal (block_argument (present_image history) track sector)
  show (dump (sector_at (present_image history) block)) history

-- `bread`: stores a block in a host file
abbrev pub block_read_act : History → Bytes × (Bytes × Bytes) → Act Ending
block_read_act history (host, (track, sector)) = do
  name ← value_or_refusal (host_in host)
  block ← value_or_refusal (block_argument (present_image history) track sector)
  put history name (sector_at (present_image history) block)

-- the most bytes of a host file that a command takes
abbrev pub host_file_limit : ℕ
host_file_limit = 1048576

-- replaces a block by a host file of one block
abbrev pub write_one_block : History → ℕ → Bytes → Act Ending
write_one_block history block bytes = do
  need (length bytes == 256) NotOneBlock
  run history (changes.BlockWrite block bytes)

-- `bwrite`: replaces a block by a host file
abbrev pub block_write_act : History → Bytes × (Bytes × Bytes) → Act Ending
block_write_act history (host, (track, sector)) = do
  name ← value_or_refusal (host_in host)
  block ← value_or_refusal (block_argument (present_image history) track sector)
  bytes ← ask (Fetch name host_file_limit)
  write_one_block history block bytes

-- writes the program of a BASIC text to the disk, as PRG
abbrev pub write_program : History → Bytes → Bytes → Act Ending
write_program history name text = do
  file ← ask (Crunch text)
  run history (changes.Write name Prg file)

-- `crunch`: writes a BASIC text of the host as a program, by default under its own name
abbrev pub crunch_act : History → Bytes × Option Bytes → Act Ending
crunch_act history (host, argument) = do
  source ← value_or_refusal (host_in host)
  name ← ask (Text is_name (new_name host argument))
  basic ← ask (Fetch source host_file_limit)
  write_program history name basic

-- `delete`: deletes the files that patterns match
abbrev pub delete_act : History → List Bytes → Act Ending
delete_act history arguments = do
  patterns ← each_text is_pattern arguments
  run history (changes.Delete patterns)

-- `format`: makes the disk an empty one, with the name and id in one argument
abbrev pub format_act : History → Bytes → Act Ending
format_act history argument = do
  parts ← value_or_refusal (ok_or (at_comma argument) SyntaxError)
  name ← ask (Text is_name parts.0)
  id ← ask (Text can_be_id parts.1)
  run history (changes.Format name id)

-- `history`: lists the records
abbrev pub history_act : History → Act Ending
history_act history = do
  ask Room
  show (history_text history) history

-- `keep`: stores the session in a host file
abbrev pub keep_act : History → Bytes → Act Ending
keep_act history host = do
  name ← value_or_refusal (host_in host)
  ask Room
  put history name (file_of history)

-- `list`: lists the directory
abbrev pub list_act : History → Act Ending
list_act history = do
  refuse_by (directory_refusal (present_image history))
  ask Room
  show (listing_text (listing_of (present_image history))) history

-- shows the file that a pattern finds as a BASIC program
abbrev pub show_program : History → Bytes → Act Ending
show_program history pattern = do
  refuse_by (read_refusal (present_image history) pattern)
  listing ← ask (Expand (found_content (present_image history) pattern))
  show listing history

-- `name`: gives the disk another name, and another id if one follows a comma
abbrev pub name_parts : History → Bytes → Option (Bytes × Bytes) → Act Ending
name_parts history argument None = do
  name ← ask (Text is_name argument)
  run history (changes.Name name None)
name_parts history argument (Some parts) = do
  name ← ask (Text is_name parts.0)
  id ← ask (Text can_be_id parts.1)
  run history (changes.Name name (Some id))

abbrev pub name_act : History → Bytes → Act Ending
name_act history argument = name_parts history argument (at_comma argument)

-- `petcat`: shows a BASIC program as text
abbrev pub petcat_act : History → Bytes → Act Ending
petcat_act history name = do
  pattern ← ask (Text is_pattern name)
  show_program history pattern

-- `quit`: ends the run
abbrev pub quit_act : History → Act Ending
quit_act history = Give (record { response = record (plain_response Done) { closes = true }; history = history })

-- stores the file that a pattern finds in a host file, by default under its own name in text form
abbrev pub read_to : History → Bytes → Option Bytes → Act Ending
read_to history pattern None = do
  refuse_by (read_refusal (present_image history) pattern)
  ask Room
  need (can_name_file (spelling (found_name (present_image history) pattern))) BadName
  put history (spelling (found_name (present_image history) pattern)) (found_content (present_image history) pattern)
read_to history pattern (Some host) = do
  name ← value_or_refusal (host_in host)
  refuse_by (read_refusal (present_image history) pattern)
  put history name (found_content (present_image history) pattern)

-- `read`: stores a file in a host file
abbrev pub read_act : History → Bytes × Option Bytes → Act Ending
read_act history (name, host) = do
  pattern ← ask (Text is_pattern name)
  read_to history pattern host

-- `redo`: goes to the next image
abbrev pub redo_act : History → Act Ending
redo_act history = do
  need (nat_lt (history.cursor + 1) (length history.images)) NothingToRedo
  leave (redone_history history)

-- `rename`: gives a file another name
abbrev pub rename_act : History → Bytes × Bytes → Act Ending
rename_act history (old_word, new_word) = do
  old ← ask (Text is_name old_word)
  new ← ask (Text is_name new_word)
  run history (changes.Rename old new)

-- `save`: stores the image in a host file, by default its own
abbrev pub save_act : Option Bytes → History → Option Bytes → Act Ending
save_act None history None = Refuse MissingArgument
save_act (Some home) history None = put history home (bytes_of (present_image history))
save_act home history (Some host) = do
  name ← value_or_refusal (host_in host)
  put history name (bytes_of (present_image history))

-- shows the file that a pattern finds as text
abbrev pub show_file : History → Bytes → Act Ending
show_file history pattern = do
  refuse_by (read_refusal (present_image history) pattern)
  ask Room
  show (typed_text (found_content (present_image history) pattern)) history

-- `type`: shows a file as text
abbrev pub type_act : History → Bytes → Act Ending
type_act history name = do
  pattern ← ask (Text is_pattern name)
  show_file history pattern

-- `undelete`: brings back a deleted file, by its name and kind
abbrev pub undelete_act : History → Bytes → Act Ending
undelete_act history argument = do
  file ← value_or_refusal (name_and_kind_in argument)
  name ← ask (Text is_name file.0)
  run history (changes.Undelete name file.1)

-- `undo`: goes to the image before
abbrev pub undo_act : History → Act Ending
undo_act history = do
  need (nat_lt 0 history.cursor) NothingToUndo
  leave (undone_history history)

-- `validate`: drops unclosed files, and writes the map anew
abbrev pub validate_act : History → Act Ending
validate_act history = run history changes.Validate

-- `write`: writes a host file to the disk, by default under its own name and as PRG
abbrev pub write_act : History → Bytes × Option Bytes → Act Ending
write_act history (host, argument) = do
  source ← value_or_refusal (host_in host)
  file ← value_or_refusal (name_and_kind_of host argument)
  name ← ask (Text is_name file.0)
  bytes ← ask (Fetch source host_file_limit)
  run history (changes.Write name file.1 bytes)

-- an act, if there are no arguments
abbrev pub alone : List Bytes → Act Ending → Act Ending
alone arguments act = no_argument arguments >> act

-- the act of a command with its arguments
abbrev pub act_for : Option Bytes → History → LineCommand → List Bytes → Act Ending
act_for home history commands.Block arguments = argument_and one_argument arguments >>= block_act history
act_for home history commands.BlockRead arguments = argument_and (argument_and one_argument) arguments >>= block_read_act history
act_for home history commands.BlockWrite arguments = argument_and (argument_and one_argument) arguments >>= block_write_act history
act_for home history commands.Crunch arguments = argument_and at_most_one arguments >>= crunch_act history
act_for home history commands.Delete arguments = some_arguments arguments >>= delete_act history
act_for home history commands.Format arguments = one_argument arguments >>= format_act history
act_for home history commands.ListHistory arguments = alone arguments (history_act history)
act_for home history commands.Keep arguments = one_argument arguments >>= keep_act history
act_for home history commands.ListDirectory arguments = alone arguments (list_act history)
act_for home history commands.Name arguments = one_argument arguments >>= name_act history
act_for home history commands.Petcat arguments = one_argument arguments >>= petcat_act history
act_for home history commands.Quit arguments = alone arguments (quit_act history)
act_for home history commands.Read arguments = argument_and at_most_one arguments >>= read_act history
act_for home history commands.Redo arguments = alone arguments (redo_act history)
act_for home history commands.Rename arguments = argument_and one_argument arguments >>= rename_act history
act_for home history commands.Save arguments = at_most_one arguments >>= save_act home history
act_for home history commands.ShowText arguments = one_argument arguments >>= type_act history
act_for home history commands.Undelete arguments = one_argument arguments >>= undelete_act history
act_for home history commands.Undo arguments = alone arguments (undo_act history)
act_for home history commands.Validate arguments = alone arguments (validate_act history)
act_for home history commands.Write arguments = argument_and at_most_one arguments >>= write_act history

-- the act of a line, by its command and arguments
abbrev pub act_of_words : Option Bytes → History → List Bytes → Act Ending
act_of_words home history [] = Refuse UnknownCommand
act_of_words home history (name ∷ arguments) = option_map_or (λ command. act_for home history command arguments) (command_named name) (Refuse UnknownCommand)

-- the act of the text of a line
abbrev pub act_of_text : Option Bytes → History → Bytes → Act Ending
act_of_text home history line = do
  words ← value_or_refusal (ok_or (words_of_line line) SyntaxError)
  act_of_words home history words

-- the act of a line; None if it is skipped
unfoldable pub act_of_line : Option Bytes → History → Bytes → Option (Act Ending)
act_of_line home history line =
    if is_too_long line then Some (Refuse LongLine)
    else (if is_skipped (text_of line) then None else Some (act_of_text home history (text_of line)))

-- a line is skipped: it has no command, and nothing changes
abbrev pub IsSkipped : Option Bytes → History → Bytes → World → World → Type 0
IsSkipped home history line world after = (act_of_line home history line ≡ None) × (after ≡ world)

-- a line has an act, which is done with a response
abbrev pub IsExecuted : Option Bytes → History → Bytes → World → LineResponse → World → Type 0
IsExecuted home history line world response after =
    MatchOption (act_of_line home history line) ⊥ (λ act. Does act world response after)
