-- The files of a survey.
use Rattle.std.specs.Prelude.{ℕ, List, [], map, string_bytes}
use Rattle.program_arguments.specs.declared.jobs.Names.{Names}
use Rattle.program_arguments.specs.declared.jobs.Names.TheVariants.{Given, Listed}
use Rattle.program_arguments.specs.declared.jobs.Separator.{Separator}
use Rattle.program_arguments.specs.declared.jobs.Separator.TheVariants.{LineFeed, Nul}
use Rattle.program_surveys.specs.declared.file_names.FileNames.{FileNames}
use Rattle.program_surveys.specs.declared.file_names.FileNames.TheVariants as code

-- the files of a survey: those with these names, or those that a list names, with this byte between
-- the names
pub data SurveyFiles : Type 0 where
  Named : List (List ℕ) → SurveyFiles
  ListedIn : List ℕ → ℕ → SurveyFiles

-- the byte that ends a name in a list
abbrev pub separator_byte : Separator → ℕ
separator_byte LineFeed = 10
separator_byte Nul = 0

-- the files that the arguments give or list
abbrev pub survey_files_of : Names → SurveyFiles
survey_files_of (Given names) = Named (map string_bytes names.items)
survey_files_of (Listed list separator) = ListedIn (string_bytes list) (separator_byte separator)

-- the files of names that the code borrows
abbrev pub files_in : FileNames → SurveyFiles
files_in (code.Given names) = Named (map string_bytes names.now)
files_in (code.Listed list separator) = ListedIn list.now separator

-- the name of the list, empty if there is none
abbrev pub list_name : SurveyFiles → List ℕ
list_name (Named names) = []
list_name (ListedIn list separator) = list
