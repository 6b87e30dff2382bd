-- The prompt: which image a session is of, and whether it has changes that are not saved.
use Rattle.std.specs.Prelude.{◌++◌, Bool, Option, Some, None, if◌then◌else◌, codes}
use Rattle.d64_image.specs.Disk.{Bytes}
use Rattle.script_lines.specs.Arguments.{after_slash}
use Rattle.host_storage.specs.Shown.{shown_name}

-- the name in the prompt: that of the image file, without its folders, as names are shown, if there
-- is one
abbrev pub name_in_prompt : Option Bytes → Bytes
name_in_prompt None = codes "d64sh"
name_in_prompt (Some home) = shown_name (after_slash home)

-- the mark after the name
abbrev pub prompt_mark : Bool → Bytes
prompt_mark is_unsaved = if is_unsaved then codes "*> " else codes "> "

-- the prompt
abbrev pub prompt : Bytes → Bool → Bytes
prompt name is_unsaved = name ++ prompt_mark is_unsaved
