-- Commands as the definitions see them: names and bytes are lists, so that a definition can have a
-- command that no code has made.
use Rattle.std.specs.Prelude.{ℕ, List, Option}
use Rattle.d64_image.specs.Disk.{Bytes}
use Rattle.d64_files.specs.declared.kind.Kind.{Kind}
use Rattle.d64_dos.specs.declared.command.Command.{Command}
use Rattle.d64_dos.specs.declared.command.Command.TheVariants as commands

-- a change of a disk
pub data Change : Type 0 where
  -- makes an empty disk with this name and id
  Format : Bytes → Bytes → Change
  -- adds a file: its name, kind and bytes
  Write : Bytes → Kind → Bytes → Change
  -- deletes the files that patterns match
  Delete : List Bytes → Change
  -- brings back a deleted file of this name, as this kind
  Undelete : Bytes → Kind → Change
  -- gives the first file of one name another
  Rename : Bytes → Bytes → Change
  -- gives the disk a name, and an id if there is one
  Name : Bytes → Option Bytes → Change
  -- drops unclosed files, and writes the map anew
  Validate : Change
  -- replaces the bytes of a block
  BlockWrite : ℕ → Bytes → Change

-- the change that a command asks for
abbrev pub change_of : Command → Change
change_of (commands.Format name id) = Format name id
change_of (commands.Write name kind bytes) = Write name kind bytes.items
change_of (commands.Delete patterns) = Delete patterns.items
change_of (commands.Undelete name kind) = Undelete name kind
change_of (commands.Rename old new) = Rename old new
change_of (commands.Name name id) = Name name id
change_of commands.Validate = Validate
change_of (commands.BlockWrite at block) = BlockWrite at block
