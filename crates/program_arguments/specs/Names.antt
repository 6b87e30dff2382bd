-- The names of files that the arguments give, in FILE.. or in a list.
use Rattle.std.specs.Prelude.{◌≡◌, ◌≢◌, ◌⊎◌, Bool, true, false, List, [], Option, None, Some, IsSome, codes, if◌then◌else◌, map, string_bytes, ⊤}
use Rattle.clap.specs.Words.{Row, Text, first_of}
use Rattle.program_arguments.specs.Values.{all_given, has_flag}
use Rattle.program_arguments.specs.declared.jobs.Names.{Names}
use Rattle.program_arguments.specs.declared.jobs.Names.TheVariants.{Given, Listed}
use Rattle.program_arguments.specs.declared.jobs.Separator.{Separator}
use Rattle.program_arguments.specs.declared.jobs.Separator.TheVariants.{LineFeed, Nul}
use Rattle.program_arguments.specs.declared.jobs.JobFault.{JobFault}
use Rattle.program_arguments.specs.declared.jobs.JobFault.TheVariants as fault

-- FILE..
abbrev pub files_by : List Row → List Text
files_by rows = all_given (codes "file") rows

-- LIST
abbrev pub list_by : List Row → Option Text
list_by rows = first_of (codes "files-from") rows

-- `--null`
abbrev pub has_null : List Row → Bool
has_null rows = has_flag (codes "null") rows

-- what ends the names of a list
abbrev pub separator_by : List Row → Separator
separator_by rows = if has_null rows then Nul else LineFeed

-- the names are in this list, with no FILE; or without a list, those of FILE.., one or more, with
-- neither `--files-from` nor `--null`
abbrev pub IsListBy : List Row → Option Text → Type 0
IsListBy rows (Some list) = (list_by rows ≡ Some list) × (files_by rows ≡ [])
IsListBy rows None = (files_by rows ≢ []) × (list_by rows ≡ None) × (has_null rows ≡ false)

-- the names are those of FILE.., one or more, with neither `--files-from` nor `--null`; or those of
-- LIST, with no FILE
abbrev pub IsNamesBy : List Row → Names → Type 0
IsNamesBy rows (Given names) =
    (map string_bytes names.items ≡ files_by rows) × (files_by rows ≢ []) × (list_by rows ≡ None) × (has_null rows ≡ false)
IsNamesBy rows (Listed list separator) =
    (list_by rows ≡ Some (string_bytes list)) × (files_by rows ≡ []) × (separator ≡ separator_by rows)

-- both FILE and `--files-from` are given, or neither
abbrev pub HasNoNames : List Row → Type 0
HasNoNames rows = ((files_by rows ≢ []) × IsSome (list_by rows)) ⊎ ((files_by rows ≡ []) × (list_by rows ≡ None))

-- `--null` is given with FILE, but no list is
abbrev pub HasNullAlone : List Row → Type 0
HasNullAlone rows = (files_by rows ≢ []) × (list_by rows ≡ None) × (has_null rows ≡ true)

-- why no names are given
abbrev pub IsNamesFault : List Row → JobFault → Type 0
IsNamesFault rows fault.Names = HasNoNames rows
IsNamesFault rows fault.Null = HasNullAlone rows
IsNamesFault rows fault.Memory = ⊤
IsNamesFault rows other = ⊥
