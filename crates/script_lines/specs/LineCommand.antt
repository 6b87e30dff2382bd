-- The commands of a line: one table of their names, how many arguments each takes at most, and how
-- its line is typed.
use Rattle.std.specs.Prelude.{ℕ, List, [], ◌∷◌, Option, find, codes}
use Rattle.std.specs.Str.{bytes_eq}
use Rattle.d64_image.specs.Disk.{Bytes}
use Rattle.script_lines.specs.declared.line_command.LineCommand.{LineCommand}
use Rattle.script_lines.specs.declared.line_command.LineCommand.TheVariants.{Block, BlockRead, BlockWrite, Crunch, Delete, Format, ListHistory, Keep, ListDirectory, Name, Petcat, Quit, Read, Redo, Rename, Save, ShowText, Undelete, Undo, Validate, Write}

-- all commands, in the order of their names
abbrev pub commands : List LineCommand
commands =
    Block
    ∷ BlockRead
    ∷ BlockWrite
    ∷ Crunch
    ∷ Delete
    ∷ Format
    ∷ ListHistory
    ∷ Keep
    ∷ ListDirectory
    ∷ Name
    ∷ Petcat
    ∷ Quit
    ∷ Read
    ∷ Redo
    ∷ Rename
    ∷ Save
    ∷ ShowText
    ∷ Undelete
    ∷ Undo
    ∷ Validate
    ∷ Write
    ∷ []

-- a command's name, the most arguments that it takes, and how its line is typed
abbrev pub command_row : LineCommand → Bytes × (ℕ × Bytes)
command_row Block = (codes "block", (2, codes "block T S"))
command_row BlockRead = (codes "bread", (3, codes "bread HOST T S"))
command_row BlockWrite = (codes "bwrite", (3, codes "bwrite HOST T S"))
command_row Crunch = (codes "crunch", (2, codes "crunch HOST [NAME]"))
command_row Delete = (codes "delete", (511, codes "delete PATTERN .."))
command_row Format = (codes "format", (1, codes "format NAME,ID"))
command_row ListHistory = (codes "history", (0, codes "history"))
command_row Keep = (codes "keep", (1, codes "keep HOST"))
command_row ListDirectory = (codes "list", (0, codes "list"))
command_row Name = (codes "name", (1, codes "name TEXT[,ID]"))
command_row Petcat = (codes "petcat", (1, codes "petcat NAME"))
command_row Quit = (codes "quit", (0, codes "quit"))
command_row Read = (codes "read", (2, codes "read NAME [HOST]"))
command_row Redo = (codes "redo", (0, codes "redo"))
command_row Rename = (codes "rename", (2, codes "rename OLD NEW"))
command_row Save = (codes "save", (1, codes "save [HOST]"))
command_row ShowText = (codes "type", (1, codes "type NAME"))
command_row Undelete = (codes "undelete", (1, codes "undelete NAME[,T]"))
command_row Undo = (codes "undo", (0, codes "undo"))
command_row Validate = (codes "validate", (0, codes "validate"))
command_row Write = (codes "write", (2, codes "write HOST [NAME[,T]]"))

abbrev pub command_name : LineCommand → Bytes
command_name command = (command_row command).0

abbrev pub most_arguments : LineCommand → ℕ
most_arguments command = (command_row command).1.0

abbrev pub usage : LineCommand → Bytes
usage command = (command_row command).1.1

-- the command with a name, if there is one
abbrev pub command_named : Bytes → Option LineCommand
command_named name = find (λ command. bytes_eq name (command_name command)) commands
