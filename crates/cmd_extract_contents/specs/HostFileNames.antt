-- The names that the files of an image get on the host.
use Rattle.std.specs.Prelude.{ℕ, Bool, true, false, List, Option}
use Rattle.std.specs.Option.{option_map_or}
use Rattle.petscii.specs.Spelling.{spelling}
use Rattle.d64_files.specs.Name.{name_in}
use Rattle.d64_files.specs.declared.kind.Kind.{Kind}
use Rattle.d64_files.specs.declared.kind.Kind.TheVariants as kinds
use Rattle.d64_inventory.specs.Rows.{FileRowView}
use Rattle.cmd_extract_contents.specs.declared.extent.Extent.{Extent}
use Rattle.cmd_extract_contents.specs.declared.extent.Extent.TheVariants as extents
use Rattle.host_names.specs.TakenNames.{next_name}
use Rattle.host_names.specs.declared.ending.Ending.{Ending}
use Rattle.host_names.specs.declared.ending.Ending.TheVariants as endings

-- the ending of the host name by the kind of a file
abbrev pub ending_of : Kind → Ending
ending_of kinds.Del = endings.Del
ending_of kinds.Seq = endings.Seq
ending_of kinds.Prg = endings.Prg
ending_of kinds.Usr = endings.Usr
ending_of kinds.Rel = endings.Rel

-- the same if there may be no kind: then there is nothing to write
abbrev pub ending_by : Option Kind → Ending
ending_by kind = option_map_or ending_of kind endings.Del

-- only a part of a file is written
abbrev pub is_part : Extent → Bool
is_part extents.Content = false
is_part extents.Part = true

-- the host name of a file, where these are taken
unfoldable pub host_name_of_row : List (List ℕ) → FileRowView → Extent → List ℕ
host_name_of_row taken row extent = next_name taken (spelling (name_in row.field)) (ending_by row.kind) (is_part extent)
