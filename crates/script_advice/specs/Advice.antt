-- What is wrong with a refused line, in plain words.
use Rattle.std.specs.Prelude.{ℕ, Bool, true, false, Option, Some, None, ◌==◌, ◌-◌, nat_lt, if◌then◌else◌, List, [], ◌∷◌, ◌++◌, map, flat_map, codes}
use Rattle.std.specs.Option.{option_map_or}
use Rattle.d64_image.specs.Disk.{Bytes}
use Rattle.script_text.specs.Number.{number_of}
use Rattle.script_lines.specs.declared.status.Status.{Status}
use Rattle.script_lines.specs.declared.status.Status.TheVariants.{Done, FilesScratched, SyntaxError, UnknownCommand, LongLine, BadName, MissingArgument, WriteFileOpen, FileNotFound, FileExists, FileTypeMismatch, IllegalBlock, DirectoryError, DiskFull, HostFile, NothingToUndo, NothingToRedo, NotOneBlock, BasicText, NotBasic, FileLost, OutOfMemory}
use Rattle.script_advice.specs.LineParts.{LineParts}
use Rattle.script_lines.specs.Arguments.{at_comma}
use Rattle.script_lines.specs.LineCommand.{command_named, most_arguments, usage}
use Rattle.script_advice.specs.Hint.{hint_text}
use Rattle.script_advice.specs.Faults.{basic_fault, directory_fault}
use Rattle.cbm_text.specs.ListFault.{list_fault_text}
use Rattle.host_storage.specs.declared.host.HostFault.{HostFault}
use Rattle.host_storage.specs.declared.host.HostFault.TheVariants.{Missing, TooLong}
use Rattle.program_console.specs.Reasons.{reason_text}
use Rattle.program_console.specs.declared.reason.Reason.{Reason}
use Rattle.script_lines.specs.declared.line_command.LineCommand.{LineCommand}
use Rattle.script_lines.specs.declared.line_command.LineCommand.TheVariants.{Block, BlockRead, BlockWrite, Crunch, Delete, Format, Keep, Name, Petcat, Read, Rename, Save, ShowText, Undelete, Write}
use Rattle.script_advice.specs.declared.advice.Advice.{Advice}
use Rattle.script_advice.specs.declared.advice.Piece.{Piece as CodePiece}
use Rattle.script_advice.specs.declared.advice.Piece.TheVariants as code

-- a piece of the advice: a text, an argument of the line, or the name in an argument that names a
-- file and its type
pub data Piece : Type 0 where
  Text : Bytes → Piece
  Command : Piece
  First : Piece
  FirstName : Piece
  Second : Piece
  SecondName : Piece
  Third : Piece
  Fourth : Piece

-- a piece of the code as one of the definitions
abbrev pub piece_of : CodePiece → Piece
piece_of (code.Text text) = Text text.now
piece_of code.Command = Command
piece_of code.First = First
piece_of code.FirstName = FirstName
piece_of code.Second = Second
piece_of code.SecondName = SecondName
piece_of code.Third = Third
piece_of code.Fourth = Fourth

abbrev pub pieces : Advice → List Piece
pieces advice = map piece_of advice.pieces

-- what comes before the first comma of an argument, or all of it
abbrev pub name_part : Bytes → Bytes
name_part argument = option_map_or (λ parts. parts.0) (at_comma argument) argument

-- the bytes of a piece, by the arguments of the line
abbrev pub piece_bytes : LineParts → Piece → Bytes
piece_bytes parts (Text text) = text
piece_bytes parts Command = parts.command
piece_bytes parts First = parts.first
piece_bytes parts FirstName = name_part parts.first
piece_bytes parts Second = parts.second
piece_bytes parts SecondName = name_part parts.second
piece_bytes parts Third = parts.third
piece_bytes parts Fourth = parts.fourth

-- two pieces among three texts
abbrev pub two_pieces : Bytes → Piece → Bytes → Piece → Bytes → List Piece
two_pieces before piece between other after = Text before ∷ piece ∷ Text between ∷ other ∷ Text after ∷ []

-- a piece between two texts
abbrev pub one_piece : Bytes → Piece → Bytes → List Piece
one_piece before piece after = two_pieces before piece after (Text []) []

-- only a text
abbrev pub plain_pieces : Bytes → List Piece
plain_pieces text = two_pieces text (Text []) [] (Text []) []

-- how the line of a command is typed; without one, where the commands are listed
abbrev pub usage_of : Option LineCommand → Bytes
usage_of command = option_map_or usage command (codes "d64sh help shell lists the commands")

-- the most arguments that a command takes, if there is one
abbrev pub most_of : Option LineCommand → ℕ
most_of command = option_map_or most_arguments command 0

-- the second argument of a line, or the first if there is no second, counting the command too
abbrev pub second_or_first : LineParts → Piece
second_or_first parts = if nat_lt 2 parts.count then Second else First

-- the argument of a line that is the name of a file on the disk
abbrev pub file_piece : LineParts → Option LineCommand → Piece
file_piece parts (Some Rename) = Second
file_piece parts (Some Crunch) = second_or_first parts
file_piece parts (Some Write) = second_or_first parts
file_piece parts command = First

-- the name in an argument that names a file
abbrev pub name_of_piece : Piece → Piece
name_of_piece First = FirstName
name_of_piece Second = SecondName
name_of_piece piece = piece

-- a line whose file isn't there
abbrev pub missing_file : Option LineCommand → List Piece
missing_file (Some Undelete) = one_piece (codes "the disk has no deleted file \"") FirstName (codes "\"")
missing_file command = one_piece (codes "the disk has no file \"") First (codes "\"")

-- the argument of a line that names a file of the host
abbrev pub host_piece : LineParts → Option LineCommand → Piece
host_piece parts (Some Read) = second_or_first parts
host_piece parts command = First

-- the first argument of a line that is one too many, for a command that takes at most n
abbrev pub surplus_piece : ℕ → Piece
surplus_piece most = if most == 0 then First else if most == 1 then Second else if most == 2 then Third else Fourth

-- the first of the arguments for a track and a sector that is no number
abbrev pub not_number : Bytes → Piece → Piece → Piece
not_number track first second = option_map_or (λ _. second) (number_of track) first

-- a line with the right number of arguments, one of which its command does not take
abbrev pub wrong_line : LineParts → Option LineCommand → List Piece
wrong_line parts (Some Block) = one_piece (codes "\"") (not_number parts.first First Second) (codes "\" is not a number from 0 to 255: block T S")
wrong_line parts (Some BlockRead) = one_piece (codes "\"") (not_number parts.second Second Third) (codes "\" is not a number from 0 to 255")
wrong_line parts (Some BlockWrite) = one_piece (codes "\"") (not_number parts.second Second Third) (codes "\" is not a number from 0 to 255")
wrong_line parts (Some Format) = one_piece (codes "\"") First (codes "\" has no comma between name and id: format NAME,ID")
wrong_line parts (Some Write) = one_piece (codes "\"") Second (codes "\" has no file type (p, s or u) after its first comma: write HOST NAME,T")
wrong_line parts (Some Undelete) = one_piece (codes "\"") First (codes "\" has no file type (p, s or u) after its first comma: undelete NAME,T")
wrong_line parts command = one_piece (codes "type the line like this: ") (Text (usage_of command)) []

-- a line whose arguments are not what its command takes
abbrev pub wrong_arguments : LineParts → Option LineCommand → List Piece
wrong_arguments parts command =
    if parts.count == 0 then plain_pieces (codes "quotes may only enclose a whole argument, and only printable ASCII is allowed")
    else if nat_lt (most_of command) (parts.count - 1)
    then two_pieces (codes "\"") (surplus_piece (most_of command)) (codes "\" is one argument too many: ") (Text (usage_of command)) []
    else wrong_line parts command

-- a line in which an argument cannot be a name
abbrev pub wrong_name : LineParts → Option LineCommand → List Piece
wrong_name parts (Some BlockRead) = one_piece (codes "\"") First (codes "\" is not a valid name of a host file, which has 1 to 255 characters")
wrong_name parts (Some BlockWrite) = one_piece (codes "\"") First (codes "\" is not a valid name of a host file, which has 1 to 255 characters")
wrong_name parts (Some Keep) = one_piece (codes "\"") First (codes "\" is not a valid name of a host file, which has 1 to 255 characters")
wrong_name parts (Some Save) = one_piece (codes "\"") First (codes "\" is not a valid name of a host file, which has 1 to 255 characters")
wrong_name parts (Some Format) = one_piece (codes "\"") First (codes "\" is not a valid name of 1 to 16 characters and an id of 2, without * ? = : and quotes")
wrong_name parts (Some Name) = one_piece (codes "\"") First (codes "\" is not a valid name of 1 to 16 characters, alone or with an id of 2 after a comma, without * ? = : and quotes")
wrong_name parts (Some Petcat) = one_piece (codes "\"") First (codes "\" is not a valid name, which has 1 to 16 characters without = : , and quotes")
wrong_name parts (Some ShowText) = one_piece (codes "\"") First (codes "\" is not a valid name, which has 1 to 16 characters without = : , and quotes")
wrong_name parts (Some Delete) = one_piece (codes "one of the names from \"") First (codes "\" on is not valid: a name has 1 to 16 characters without = : , and quotes")
wrong_name parts (Some Read) = two_pieces (codes "\"") First (codes "\" is not a valid name on a disk, which has 1 to 16 characters without = : , and quotes, or the host cannot have a file \"") (host_piece parts (Some Read)) (codes "\": read NAME HOST")
wrong_name parts (Some Rename) = two_pieces (codes "\"") First (codes "\" or \"") Second (codes "\" is not a valid name on a disk, which has 1 to 16 characters without * ? = : , and quotes")
wrong_name parts (Some Undelete) = one_piece (codes "\"") First (codes "\" does not give a valid name on a disk, which has 1 to 16 characters without * ? = : , and quotes")
wrong_name parts command = two_pieces (codes "\"") (file_piece parts command) (codes "\" does not give a valid name on a disk, which has 1 to 16 characters without * ? = : , and quotes, or the host cannot have a file \"") First (codes "\"")

-- a line in which an argument is missing
abbrev pub missing_argument : LineParts → Option LineCommand → List Piece
missing_argument parts (Some Save) = plain_pieces (codes "the session began without an image file, so save takes a name: save HOST")
missing_argument parts command = one_piece (codes "an argument is missing: ") (Text (usage_of command)) []

-- the disk has no block on this track with this sector
abbrev pub no_block : Piece → Piece → List Piece
no_block track sector = two_pieces (codes "the disk has no track ") track (codes " with a sector ") sector (codes ": sectors are numbered from 0, and there are 21 on tracks 1 to 17, 19 on 18 to 24, 18 on 25 to 30, then 17")

-- a line that names a block that the disk doesn't have
abbrev pub wrong_block : LineParts → Option LineCommand → List Piece
wrong_block parts (Some Block) = no_block First Second
wrong_block parts command = no_block Second Third

-- whether a command reads its host file
abbrev pub reads_host_file : Option LineCommand → Bool
reads_host_file (Some BlockWrite) = true
reads_host_file (Some Crunch) = true
reads_host_file (Some Write) = true
reads_host_file command = false

-- what a command cannot do with its host file
abbrev pub unusable : Option LineCommand → Bytes
unusable command = if reads_host_file command then codes "\" cannot be read" else codes "\" cannot be written"

-- the same, before the reason in brackets
abbrev pub unusable_for : Option LineCommand → Bytes
unusable_for command = if reads_host_file command then codes "\" cannot be read (" else codes "\" cannot be written ("

-- a command cannot read or write its host file, for this reason, if one is known
abbrev pub unusable_file : Option LineCommand → Piece → Option Reason → List Piece
unusable_file command file None = one_piece (codes "the file \"") file (unusable command)
unusable_file command file (Some reason) = two_pieces (codes "the file \"") file (unusable_for command) (Text (reason_text reason)) (codes ")")

-- the host file of a command has this fault, for this reason, if one is known
abbrev pub host_fault : Option LineCommand → HostFault → Option Reason → Piece → List Piece
host_fault command Missing reason file = one_piece (codes "the host has no file \"") file (codes "\"")
host_fault command TooLong reason file = one_piece (codes "the file \"") file (codes "\" has more than 1048576 bytes")
host_fault command fault reason file = unusable_file command file reason

-- a line whose host file has this fault, for this reason, if one is known
abbrev pub wrong_host_file : LineParts → Option LineCommand → HostFault → Option Reason → List Piece
wrong_host_file parts command fault reason =
    if parts.count == 1 then plain_pieces (codes "the image file cannot be written; save HOST stores the image elsewhere")
    else host_fault command fault reason (host_piece parts command)

-- a line that names a file of a type that its command does not take
abbrev pub wrong_type : LineParts → Option LineCommand → List Piece
wrong_type parts (Some Write) = one_piece (codes "the type in \"") Second (codes "\" cannot be written; p, s and u can be")
wrong_type parts (Some Undelete) = one_piece (codes "the type in \"") First (codes "\" cannot be brought back; p, s and u can be")
wrong_type parts command = one_piece (codes "the file \"") (name_of_piece (file_piece parts command)) (codes "\" has the wrong type for this command")

-- the advice about a line of a command that was refused with a status, for this reason, if one is
-- known
abbrev pub advice_by : LineParts → Option LineCommand → Status → Option Reason → List Piece
advice_by parts command SyntaxError reason = wrong_arguments parts command
advice_by parts command UnknownCommand reason = two_pieces (codes "there is no command \"") Command (codes "\"") (Text (hint_text parts.command)) []
advice_by parts command LongLine reason = plain_pieces (codes "a line has at most 1024 characters")
advice_by parts command BadName reason = wrong_name parts command
advice_by parts command MissingArgument reason = missing_argument parts command
advice_by parts command WriteFileOpen reason = one_piece (codes "the file \"") First (codes "\" was never closed, so it cannot be read; d64sh extract --part writes what is there")
advice_by parts command FileNotFound reason = missing_file command
advice_by parts command FileExists reason = one_piece (codes "the disk already has a file named \"") (name_of_piece (file_piece parts command)) (codes "\"")
advice_by parts command FileTypeMismatch reason = wrong_type parts command
advice_by parts command (IllegalBlock track sector) reason = wrong_block parts command
advice_by parts command (DirectoryError fault) reason = one_piece (codes "the disk is damaged: ") (Text (directory_fault fault)) (codes "; d64sh check shows where")
advice_by parts command DiskFull reason = plain_pieces (codes "there is not enough space on the disk or in its directory; a blank disk needs format first")
advice_by parts command (HostFile fault) reason = wrong_host_file parts command fault reason
advice_by parts command NothingToUndo reason = plain_pieces (codes "there is nothing to undo")
advice_by parts command NothingToRedo reason = plain_pieces (codes "there is nothing to redo")
advice_by parts command NotOneBlock reason = one_piece (codes "the file \"") First (codes "\" is not 256 bytes long")
advice_by parts command (BasicText fault) reason = two_pieces (codes "the text \"") First (codes "\" is not a program: ") (Text (basic_fault fault)) []
advice_by parts command (NotBasic fault) reason = two_pieces (codes "the file \"") First (codes "\" is not a BASIC program: ") (Text (list_fault_text fault)) []
advice_by parts command FileLost reason = one_piece (codes "what was deleted as \"") FirstName (codes "\" is lost, and cannot be brought back")
advice_by parts command OutOfMemory reason = plain_pieces (codes "out of memory")
advice_by parts command Done reason = plain_pieces []
advice_by parts command (FilesScratched count) reason = plain_pieces []

-- the advice about a line with these arguments that was refused with a status, for this reason, if
-- one is known
abbrev pub advice : LineParts → Status → Option Reason → List Piece
advice parts status reason = advice_by parts (command_named parts.command) status reason

-- the advice as bytes, with the line end
abbrev pub advice_text : LineParts → List Piece → Bytes
advice_text parts advised = flat_map (piece_bytes parts) advised ++ codes "\n"
