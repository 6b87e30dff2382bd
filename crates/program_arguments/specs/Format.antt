-- The forms of output that `--format` gives.
use Rattle.std.specs.Prelude.{List, Option, Some, None, if◌then◌else◌, bytes_eq, codes, unwrap_or}
use Rattle.clap.specs.Words.{Row, Text as Name, first_of}
use Rattle.program_arguments.specs.declared.jobs.Format.{Format}
use Rattle.program_arguments.specs.declared.jobs.Format.TheVariants.{Text, Json, Csv}
use Rattle.program_arguments.specs.declared.jobs.DiffForm.{DiffForm}
use Rattle.program_arguments.specs.declared.jobs.DiffForm.TheVariants as diff
use Rattle.program_arguments.specs.declared.jobs.PictureForm.{PictureForm}
use Rattle.program_arguments.specs.declared.jobs.PictureForm.TheVariants as picture

-- the name of a form: the option's value, or `text` without it
abbrev pub form_name : List Row → Name
form_name rows = unwrap_or (first_of (codes "format") rows) (codes "text")

-- the form of a survey's output of this name; None for an unknown name
abbrev pub format_of : Name → Option Format
format_of name =
    if bytes_eq name (codes "text") then Some Text
    else if bytes_eq name (codes "json") then Some Json
    else if bytes_eq name (codes "csv") then Some Csv
    else None

-- the form of a picture of this name
abbrev pub picture_form_of : Name → Option PictureForm
picture_form_of name =
    if bytes_eq name (codes "text") then Some picture.Text
    else if bytes_eq name (codes "svg") then Some picture.Svg
    else None

-- the form of changes of this name
abbrev pub diff_form_of : Name → Option DiffForm
diff_form_of name =
    if bytes_eq name (codes "text") then Some diff.Text
    else if bytes_eq name (codes "json") then Some diff.Json
    else None
