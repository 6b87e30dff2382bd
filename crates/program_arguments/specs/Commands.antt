-- The program's subcommands and their arguments, as `clap` reads them.
use Rattle.std.specs.Prelude.{◌∷◌, ℕ, List, [], Some, codes, fold, true}
use Rattle.clap.specs.Words.{App, Rule, new_app, new_rule, with_rule, with_subcommand}
use Rattle.clap.specs.Lexer.{usize_max}
use Rattle.clap.specs.declared.builder.action.ArgAction.TheVariants.{Append, SetTrue}

-- a positional argument with this name, which need not be given
abbrev pub optional_argument : List ℕ → Rule
optional_argument name = record (new_rule name) { value_names = 1 }

-- `image` and `file`: two such arguments
abbrev pub image_argument : Rule
image_argument = optional_argument (codes "image")

abbrev pub file_argument : Rule
file_argument = optional_argument (codes "file")

-- a positional argument with this name, which must be given
abbrev pub required_argument : List ℕ → Rule
required_argument name = record (new_rule name) { value_names = 1; required = true }

-- an option with a value, by its long name
abbrev pub valued_option : List ℕ → Rule
valued_option name = record (new_rule name) { long = Some name; value_names = 1 }

-- an option without a value
abbrev pub flag : List ℕ → Rule
flag name = record (new_rule name) { long = Some name; action = Some SetTrue }

-- `-o FILE` and `--output FILE`
abbrev pub output_option : Rule
output_option = record (valued_option (codes "output")) { short = Some 111 }

-- `file` as all positional arguments that are left, one or more
abbrev pub files_argument : Rule
files_argument = record file_argument { range = Some (record { start_inclusive = 1; end_inclusive = usize_max }) }

-- `-c LINE` and `--command LINE`, any number of times
abbrev pub line_option : Rule
line_option = record (valued_option (codes "command")) { short = Some 99; action = Some Append }

-- `-e` and `--stop-at-refusal`
abbrev pub stop_flag : Rule
stop_flag = record (flag (codes "stop-at-refusal")) { short = Some 101 }

-- a subcommand with the options of a script
abbrev pub with_script : App → App
with_script app = with_rule (with_rule app line_option) stop_flag

-- `shell [--tracks N] [--resume FILE] [IMAGE]` with the options of a script
abbrev pub shell : App
shell =
    let begun = with_rule (with_rule (new_app (codes "shell")) (valued_option (codes "tracks"))) (valued_option (codes "resume")) in
    with_script (with_rule begun image_argument)

-- `petcat [-o FILE] [FILE]`
abbrev pub petcat : App
petcat = with_rule (with_rule (new_app (codes "petcat")) output_option) file_argument

-- `crunch [--start HEX] [-o FILE] [FILE]`
abbrev pub crunch : App
crunch = with_rule (with_rule (with_rule (new_app (codes "crunch")) (valued_option (codes "start"))) output_option) file_argument

-- a subcommand with the names of files: `--files-from LIST`, `--null` and `FILE..`
abbrev pub with_names : App → App
with_names app = with_rule (with_rule (with_rule app (valued_option (codes "files-from"))) (flag (codes "null"))) files_argument

-- a subcommand with the arguments of a survey: `--format FORMAT` and the names of files
abbrev pub survey : App → App
survey app = with_names (with_rule app (valued_option (codes "format")))

-- `check [--digest]` with the arguments of a survey
abbrev pub check : App
check = survey (with_rule (new_app (codes "check")) (flag (codes "digest")))

-- a subcommand with the flags for what is left over beside files: `--deleted` and `--orphans`
abbrev pub with_leftovers : App → App
with_leftovers app = with_rule (with_rule app (flag (codes "deleted"))) (flag (codes "orphans"))

-- `files [--deleted] [--orphans]` with the arguments of a survey
abbrev pub files : App
files = survey (with_leftovers (new_app (codes "files")))

-- `extract [--into FOLDER] [--part] [--skip-existing] [--deleted] [--orphans]` with the
-- arguments of a survey
abbrev pub extract : App
extract =
    let placed = with_rule (new_app (codes "extract")) (valued_option (codes "into")) in
    survey (with_leftovers (with_rule (with_rule placed (flag (codes "part"))) (flag (codes "skip-existing"))))

-- `map [--format FORMAT] FILE`
abbrev pub map : App
map = with_rule (with_rule (new_app (codes "map")) (valued_option (codes "format"))) (required_argument (codes "file"))

-- `diff [--format FORMAT] OLD NEW`
abbrev pub diff : App
diff =
    let formed = with_rule (new_app (codes "diff")) (valued_option (codes "format")) in
    with_rule (with_rule formed (required_argument (codes "old"))) (required_argument (codes "new"))

-- a subcommand with what is to be done where good copies differ
abbrev pub with_preference : App → App
with_preference app = with_rule (with_rule app (flag (codes "majority"))) (flag (codes "first"))

-- `merge -o OUT [--plain] [--majority] [--first] [--format FORMAT] FILE..`
abbrev pub merge : App
merge =
    let placed = with_rule (with_rule (new_app (codes "merge")) output_option) (flag (codes "plain")) in
    with_rule (with_rule (with_preference placed) (valued_option (codes "format"))) files_argument

-- `catalogue [--maps] [--title TEXT] [--links FOLDER]` with the names of files
abbrev pub catalogue : App
catalogue =
    let drawn = with_rule (new_app (codes "catalogue")) (flag (codes "maps")) in
    with_names (with_rule (with_rule drawn (valued_option (codes "title"))) (valued_option (codes "links")))

-- the subcommands
abbrev pub apps : List App
apps = shell ∷ petcat ∷ crunch ∷ check ∷ files ∷ extract ∷ map ∷ diff ∷ merge ∷ catalogue ∷ []

-- `d64sh` alone: it has a version, requires a subcommand, and prints its help without arguments and
-- after `help`
abbrev pub bare_app : App
bare_app = let named = new_app (codes "d64sh") in record named {
  top = record named.top {
    has_version = true;
    subcommand_required = true;
    arg_required_else_help = true;
  };
}

-- `d64sh` with its subcommands
unfoldable pub d64sh : App
d64sh = fold (λ command app. with_subcommand command app.top) bare_app apps
