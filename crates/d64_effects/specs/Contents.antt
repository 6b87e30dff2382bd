-- The directory's list of names and contents.
use Rattle.std.specs.Prelude.{ℕ, Bool, List, option_map}
use Rattle.std.specs.List.{filter_map}
use Rattle.d64_image.specs.Disk.{Bytes}
use Rattle.d64_effects.specs.View.{View, FileView}
use Rattle.d64_files.specs.Name.{name_in}
use Rattle.d64_files.specs.declared.kind.Kind.{Kind}

-- a file as that list has it: its name, its kind and its content, but not where it is
pub record ListedFile : Type 0 where
  pub name : Bytes
  pub kind : Kind
  pub closed : Bool
  pub locked : Bool
  pub size : ℕ
  pub content : Bytes

-- the file of a view as that list has it
abbrev pub listed_file : FileView → ListedFile
listed_file file = record { name = name_in file.field; kind = file.kind; closed = file.closed; locked = file.locked; size = file.size; content = file.content }

-- the files of the used slots, in the directory's order
abbrev pub names_and_contents : View → List ListedFile
names_and_contents shown = filter_map (option_map listed_file) shown.slots
