-- The program's subcommands: what each one is to `clap`, and which of them report.
use Rattle.std.specs.Prelude.{◌∷◌, List, [], codes}
use Rattle.clap.specs.Words.{App, Text}
use Rattle.program_arguments.specs.Commands.{shell, petcat, crunch, check, files, extract, map, diff, merge, catalogue}
use Rattle.program_arguments.specs.declared.subcommand.Subcommand.{Subcommand}
use Rattle.program_arguments.specs.declared.subcommand.Subcommand.TheVariants.{Shell, Petcat, Crunch, Check, Files, Extract, Map, Diff, Merge, Catalogue}

-- a subcommand as `clap` reads it
abbrev pub app_for : Subcommand → App
app_for Shell = shell
app_for Petcat = petcat
app_for Crunch = crunch
app_for Check = check
app_for Files = files
app_for Extract = extract
app_for Map = map
app_for Diff = diff
app_for Merge = merge
app_for Catalogue = catalogue

-- its name
abbrev pub name_for : Subcommand → Text
name_for subcommand = (app_for subcommand).top.name

-- those that print what they find on dumps
abbrev pub reports : List Text
reports = codes "check" ∷ codes "files" ∷ codes "extract" ∷ codes "map" ∷ codes "diff" ∷ codes "merge" ∷ codes "catalogue" ∷ []
