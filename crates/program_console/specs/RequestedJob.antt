-- The program's arguments, and the errors that are of them.
use Rattle.std.specs.Prelude.{◌⊎◌, ℕ, List, [], ◌∷◌, map, codes, ⊤}
use Rattle.host_storage.specs.Shown.{shown_name}
use Rattle.program_arguments.specs.Requested.{IsFault, IsHelpOrVersion, IsOneOf}
use Rattle.program_arguments.specs.Subcommands.{reports}
use Rattle.program_arguments.specs.declared.jobs.JobFault.{JobFault}
use Rattle.program_arguments.specs.declared.jobs.JobFault.TheVariants.{Arguments}

-- the arguments with the program's name before them
abbrev pub named_arguments : List (List ℕ) → List (List ℕ)
named_arguments after = codes "d64sh" ∷ after

-- the arguments begin with the name of a subcommand that prints what it finds on dumps
abbrev pub AsksForReport : List (List ℕ) → Type 0
AsksForReport [] = ⊥
AsksForReport (name ∷ rest) = IsOneOf reports name

-- arguments, each shown as a name of the host
abbrev pub shown_arguments : List (List ℕ) → List (List ℕ)
shown_arguments arguments = map shown_name arguments

-- a fault that is an error of clap's, and neither help nor version, is an error of these arguments
abbrev pub IsErrorOf : List (List ℕ) → JobFault → Type 0
IsErrorOf arguments (Arguments error) = IsHelpOrVersion (Arguments error) ⊎ IsFault arguments (Arguments error)
IsErrorOf arguments fault = ⊤
