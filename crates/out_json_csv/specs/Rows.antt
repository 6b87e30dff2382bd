-- Fields of rows of CSV.
use Rattle.std.specs.Prelude.{ℕ, Bool, if◌then◌else◌, List, codes}
use Rattle.std.specs.Str.{is_utf8}
use Rattle.host_storage.specs.Shown.{shown_name}

-- `true` or `false`
abbrev pub truth_text : Bool → List ℕ
truth_text value = if value then codes "true" else codes "false"

-- a name of the host; a name that is not UTF-8 is written as it is shown in text
abbrev pub host_field : List ℕ → List ℕ
host_field name = if is_utf8 name then name else shown_name name
