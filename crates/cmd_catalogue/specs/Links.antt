-- The host files to which the names of files are links: those that `extract` writes without
-- `--part`.
use Rattle.std.specs.Prelude.{ℕ, false, if◌then◌else◌, List, [], ◌∷◌, ◌++◌, Option, Some, None, option_map}
use Rattle.std.specs.Option.{option_map_or}
use Rattle.std.specs.Str.{is_utf8}
use Rattle.d64_files.specs.Slot.{EntryView}
use Rattle.d64_survey.specs.Dump.{DumpView}
use Rattle.d64_inventory.specs.Rows.{file_row_of}
use Rattle.cmd_extract_contents.specs.Portions.{Portion, portion_at}
use Rattle.cmd_extract_contents.specs.Limits.{limit, left_after, portion_within}
use Rattle.cmd_extract_contents.specs.declared.extent.Extent.TheVariants.{Content}
use Rattle.host_names.specs.Paths.{done_path, path_in}
use Rattle.cmd_extract_contents.specs.HostFileNames.{host_name_of_row}
use Rattle.cmd_catalogue.specs.Urls.{url_of}

-- the folder of the image with this name, below the links' folder; None if there is no such folder,
-- or the name is not UTF-8
abbrev pub folder_of : Option (List ℕ) → List ℕ → Option (List ℕ)
folder_of None name = None
folder_of (Some into) name = if is_utf8 name then Some (done_path into name) else None

-- how far the host files of an image are named: how many bytes later files may have, and the names
-- that are taken
pub record Naming : Type 0 where
  pub left : Option ℕ
  pub taken : List (List ℕ)

-- no file is named yet
abbrev pub first_naming : Naming
first_naming = record { left = Some limit; taken = [] }

-- the content of the file of an entry, if there is one
abbrev pub portion_of_entry : DumpView → EntryView → Option Portion
portion_of_entry dump entry = portion_at false dump.image entry.slot

-- the name of its host file, if it is written
unfoldable pub file_name : DumpView → Naming → EntryView → Option (List ℕ)
file_name dump naming entry =
    option_map (λ (content : Portion). host_name_of_row naming.taken (file_row_of dump (entry.slot, entry.bytes)) Content) (portion_within naming.left (portion_of_entry dump entry))

-- the URL of its host file in a folder, if it is written
abbrev pub file_url : List ℕ → DumpView → Naming → EntryView → Option (List ℕ)
file_url folder dump naming entry = option_map (λ name. url_of (path_in folder name)) (file_name dump naming entry)

-- how far they are named after the file of an entry
unfoldable pub naming_after : DumpView → Naming → EntryView → Naming
naming_after dump naming entry = record {
  left = left_after naming.left (portion_of_entry dump entry);
  taken = naming.taken ++ option_map_or (λ name. name ∷ []) (file_name dump naming entry) [];
}
