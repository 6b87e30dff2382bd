-- The commands, as `help` shows them.
use Rattle.std.specs.Prelude.{ℕ, List, codes}

-- a row for each command: its arguments, and what it does
unfoldable pub command_rows : List ℕ
command_rows = codes "  format NAME,ID         make the disk empty\n  write HOST [NAME[,T]]  write a host file to the disk; T is p, s or u\n  crunch HOST [NAME]     write the BASIC program of a host file's text\n  read NAME [HOST]       store a file of the disk as a host file\n  petcat NAME            print the text of a BASIC program\n  type NAME              print a text of the disk\n  delete PATTERN ..      delete the files whose names match\n  undelete NAME[,T]      bring a deleted file back; T is p, s or u\n  rename OLD NEW         give a file another name\n  name TEXT[,ID]         give the disk another name\n  list                   print the directory\n  validate               free the blocks that no closed file has\n  block T S              print the block of track T and sector S\n  bread HOST T S         store a block as a host file\n  bwrite HOST T S        write a block from a host file of 256 bytes\n  undo, redo             take a change back, and make it again\n  history                print the changes\n  save [HOST]            store the image, as IMAGE without a name\n  keep HOST              store the session, with its changes\n  quit                   end the script\n"
