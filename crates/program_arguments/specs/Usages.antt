-- The usages of the program and of its subcommands.
use Rattle.std.specs.Prelude.{Option, None, Some, codes}
use Rattle.clap.specs.Words.{Text}
use Rattle.program_arguments.specs.declared.subcommand.Subcommand.{Subcommand}
use Rattle.program_arguments.specs.declared.subcommand.Subcommand.TheVariants.{Shell, Petcat, Crunch, Check, Files, Extract, Map, Diff, Merge, Catalogue}

-- the usage of a subcommand
unfoldable pub usage_for : Subcommand → Text
usage_for Shell = codes "d64sh shell [-e] [-c LINE].. [--tracks N] [IMAGE]\n       d64sh shell [-e] [-c LINE].. --resume FILE [IMAGE]"
usage_for Petcat = codes "d64sh petcat [-o FILE] [FILE]"
usage_for Crunch = codes "d64sh crunch [--start HEX] [-o FILE] [FILE]"
usage_for Check = codes "d64sh check [--digest] [--format FORMAT] FILE..\n       d64sh check [--digest] [--format FORMAT] --files-from LIST [--null]"
usage_for Files = codes "d64sh files [--deleted] [--orphans] [--format FORMAT] FILE..\n       d64sh files [..] --files-from LIST [--null]"
usage_for Extract = codes "d64sh extract [--into FOLDER] [--part] [--deleted] [--orphans]\n                     [--skip-existing] [--format FORMAT] FILE..\n       d64sh extract [..] --files-from LIST [--null]"
usage_for Map = codes "d64sh map [--format FORMAT] FILE"
usage_for Diff = codes "d64sh diff [--format FORMAT] OLD NEW"
usage_for Merge = codes "d64sh merge -o OUT [--plain] [--majority] [--first] [--format FORMAT] FILE.."
usage_for Catalogue = codes "d64sh catalogue [--maps] [--title TEXT] [--links FOLDER] FILE..\n       d64sh catalogue [..] --files-from LIST [--null]"

-- the usage of a subcommand, or that of the program
abbrev pub refused_usage : Option Subcommand → Text
refused_usage None = codes "d64sh <COMMAND>"
refused_usage (Some subcommand) = usage_for subcommand
