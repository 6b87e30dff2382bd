-- What the arguments of the program ask for.
use Rattle.std.specs.Prelude.{◌≡◌, ◌≢◌, ◌⊎◌, ◌∷◌, ℕ, List, [], codes, None, Option, Some, option_map, drop, IsSome, IsSomeAnd, String, map, string_bytes, ⊤}
use Rattle.clap.specs.Words.{Row, Text, IsAmong, fault_of, first_of, kind_of, subcommand_of}
use Rattle.clap.specs.declared.error.Error.{Error}
use Rattle.clap.specs.declared.error.kind.ErrorKind.{ErrorKind}
use Rattle.clap.specs.declared.error.kind.ErrorKind.TheVariants.{DisplayHelp, DisplayVersion, OutOfMemory}
use Rattle.program_arguments.specs.Commands.{apps, d64sh}
use Rattle.program_arguments.specs.Subcommands.{name_for}
use Rattle.program_arguments.specs.declared.subcommand.Subcommand.{Subcommand}
use Rattle.program_arguments.specs.Start.{IsStartBy, HasNoAddress}
use Rattle.program_arguments.specs.Tracks.{IsTracksBy, HasNoTracks}
use Rattle.program_arguments.specs.Extraction.{HasNoFolder, IsExtractionBy}
use Rattle.program_arguments.specs.Format.{diff_form_of, form_name, format_of, picture_form_of}
use Rattle.program_arguments.specs.Leftovers.{IsLeftoversBy}
use Rattle.program_arguments.specs.Merging.{IsMergingBy}
use Rattle.program_arguments.specs.Names.{files_by, HasNoNames, HasNullAlone, IsNamesBy}
use Rattle.program_arguments.specs.Page.{HasNamedPage, IsPageBy, IsPageFault}
use Rattle.program_arguments.specs.Values.{all_given, has_flag}
use Rattle.program_arguments.specs.declared.jobs.DiffForm.{DiffForm}
use Rattle.program_arguments.specs.declared.jobs.Format.{Format as OutputFormat}
use Rattle.program_arguments.specs.declared.jobs.PictureForm.{PictureForm}
use Rattle.program_arguments.specs.declared.jobs.Job.{Job}
use Rattle.program_arguments.specs.declared.jobs.Job.TheVariants.{Shell, Petcat, Crunch, Check, Files, Extract, Map, Diff, Merge, Catalogue}
use Rattle.program_arguments.specs.declared.jobs.JobFault.{JobFault}
use Rattle.program_arguments.specs.declared.jobs.JobFault.TheVariants.{Arguments, Start, Memory, Tracks, Both, Format, Names, Null, Picture, Difference, Folder, Title, Links, Output, Dumps}

-- a subcommand that the arguments name, and the values that they give to its arguments
abbrev pub Met : Type 0
Met = Text × List Row

-- the name is one of these
abbrev pub IsOneOf : List Text → Text → Type 0
IsOneOf [] name = ⊥
IsOneOf (first ∷ rest) name = (name ≡ first) ⊎ IsOneOf rest name

-- the subcommands that take files by their names, and print in a form of output
abbrev pub surveys : List Text
surveys = codes "check" ∷ codes "files" ∷ codes "extract" ∷ []

-- the names of the subcommands
abbrev pub subcommands : List Text
subcommands = map (λ app. app.top.name) apps

-- the arguments that a subcommand requires, each with that subcommand
abbrev pub requirements : List (Text × Text)
requirements = (codes "map", codes "file") ∷ (codes "diff", codes "old") ∷ (codes "diff", codes "new") ∷ []

-- each of these arguments has a value if its subcommand is the one that is named
abbrev pub HasValues : List (Text × Text) → Met → Type 0
HasValues [] met = ⊤
HasValues (first ∷ rest) met = (met.0 ≡ first.0 → IsSome (first_of first.1 met.1)) × HasValues rest met

-- the subcommand is one of the program's, and has a value for each argument that it requires
abbrev pub IsWhole : Met → Type 0
IsWhole met = IsOneOf subcommands met.0 × HasValues requirements met

-- a name in a job is the value that is given to an argument, if one is given
abbrev pub IsGiven : {A : Type 0} → Met → Text → Option (String A) → Type 0
IsGiven met id name = option_map string_bytes name ≡ first_of id met.1

-- both `--resume` and `--tracks` are given
abbrev pub HasBoth : Met → Type 0
HasBoth met = IsSomeAnd (first_of (codes "resume") met.1) (λ file. IsSome (first_of (codes "tracks") met.1))

-- the form of a survey's output that `--format` gives
abbrev pub format_given : Met → Option OutputFormat
format_given met = format_of (form_name met.1)

-- `extract` is given a folder with an empty name
abbrev pub IsPlaceless : Met → Type 0
IsPlaceless met = (met.0 ≡ codes "extract") × HasNoFolder (first_of (codes "into") met.1)

-- the subcommand takes names of files: a survey that has a form of output, and no folder with an
-- empty name; or `catalogue`, which has only one form, if its page has a title and a folder of
-- links
abbrev pub TakesNames : Met → Type 0
TakesNames met = (IsOneOf surveys met.0 × IsSome (format_given met) × (¬ IsPlaceless met)) ⊎ ((met.0 ≡ codes "catalogue") × HasNamedPage met.1)

-- the form of a picture that `--format` gives
abbrev pub picture_form_given : Met → Option PictureForm
picture_form_given met = picture_form_of (form_name met.1)

-- the form of changes that `--format` gives
abbrev pub diff_form_given : Met → Option DiffForm
diff_form_given met = diff_form_of (form_name met.1)

-- the subcommand asks for this job
abbrev pub IsJobOf : Met → Job → Type 0
IsJobOf met (Shell image tracks resume lines stops_at_refusal) =
    (met.0 ≡ codes "shell") × IsGiven met (codes "image") image × IsGiven met (codes "resume") resume
    × IsTracksBy (first_of (codes "tracks") met.1) (first_of (codes "image") met.1) tracks × (¬ HasBoth met)
    × (map string_bytes lines.items ≡ all_given (codes "command") met.1) × (stops_at_refusal ≡ has_flag (codes "stop-at-refusal") met.1)
IsJobOf met (Petcat file output) = (met.0 ≡ codes "petcat") × IsGiven met (codes "file") file × IsGiven met (codes "output") output
IsJobOf met (Crunch start file output) =
    (met.0 ≡ codes "crunch") × IsGiven met (codes "file") file × IsGiven met (codes "output") output
    × IsStartBy (first_of (codes "start") met.1) start
IsJobOf met (Check digest format names) =
    (met.0 ≡ codes "check") × (digest ≡ has_flag (codes "digest") met.1) × (format_given met ≡ Some format) × IsNamesBy met.1 names
IsJobOf met (Files leftovers format names) =
    (met.0 ≡ codes "files") × IsLeftoversBy met.1 leftovers × (format_given met ≡ Some format) × IsNamesBy met.1 names
IsJobOf met (Extract extraction leftovers format names) =
    (met.0 ≡ codes "extract") × IsExtractionBy met.1 extraction × IsLeftoversBy met.1 leftovers × (format_given met ≡ Some format) × IsNamesBy met.1 names
IsJobOf met (Map format file) =
    (met.0 ≡ codes "map") × (picture_form_given met ≡ Some format) × (first_of (codes "file") met.1 ≡ Some (string_bytes file))
IsJobOf met (Diff format old new) =
    (met.0 ≡ codes "diff") × (diff_form_given met ≡ Some format)
    × (first_of (codes "old") met.1 ≡ Some (string_bytes old)) × (first_of (codes "new") met.1 ≡ Some (string_bytes new))
IsJobOf met (Merge merging format files) =
    (met.0 ≡ codes "merge") × IsMergingBy met.1 merging × (diff_form_given met ≡ Some format)
    × (map string_bytes files.items ≡ files_by met.1) × (files_by met.1 ≢ [])
IsJobOf met (Catalogue page names) = (met.0 ≡ codes "catalogue") × IsPageBy met.1 page × IsNamesBy met.1 names

-- it asks for no job, since its start is no address, or no disk has its number of tracks; or, if a
-- disk has that number, since `--resume` is given, too, and that file has tracks of its own; or
-- since `--format` names no form of output; or, if it has a form, since the name of its folder is
-- empty; or since its page has an empty title, or else an empty folder of links; or since nothing
-- says which file a merge makes, or else of which files; or else since there are no names, or
-- `--null` is given without a list of them; or there is no memory
abbrev pub IsFaultOf : Met → JobFault → Type 0
IsFaultOf met (Arguments error) = ⊥
IsFaultOf met Start = (met.0 ≡ codes "crunch") × HasNoAddress (first_of (codes "start") met.1)
IsFaultOf met Memory = ⊤
IsFaultOf met Tracks = (met.0 ≡ codes "shell") × HasNoTracks (first_of (codes "tracks") met.1) (first_of (codes "image") met.1)
IsFaultOf met Both = (met.0 ≡ codes "shell") × HasBoth met
    × (tracks : ℕ) × IsTracksBy (first_of (codes "tracks") met.1) (first_of (codes "image") met.1) tracks
IsFaultOf met Format = IsOneOf surveys met.0 × (format_given met ≡ None)
IsFaultOf met Names = TakesNames met × HasNoNames met.1
IsFaultOf met Null = TakesNames met × HasNullAlone met.1
IsFaultOf met Picture = (met.0 ≡ codes "map") × (picture_form_given met ≡ None)
IsFaultOf met Difference = IsOneOf (codes "diff" ∷ codes "merge" ∷ []) met.0 × (diff_form_given met ≡ None)
IsFaultOf met Folder = IsPlaceless met × IsSome (format_given met)
IsFaultOf met Title = (met.0 ≡ codes "catalogue") × IsPageFault met.1 Title
IsFaultOf met Links = (met.0 ≡ codes "catalogue") × IsPageFault met.1 Links
IsFaultOf met Output = (met.0 ≡ codes "merge") × IsSome (diff_form_given met) × (first_of (codes "output") met.1 ≡ None)
IsFaultOf met Dumps = (met.0 ≡ codes "merge") × IsSome (diff_form_given met) × IsSome (first_of (codes "output") met.1) × (files_by met.1 ≡ [])

-- the arguments are the program's, and ask neither for help nor for the version; and this holds of
-- the subcommand that they name
abbrev pub IsUse : List Text → (Met → Type 0) → Type 0
IsUse arguments holds = (fault_of d64sh arguments ≡ []) × IsSomeAnd (subcommand_of d64sh arguments) holds

-- the arguments ask for this job
abbrev pub IsJob : List Text → Job → Type 0
IsJob arguments job = IsUse arguments (λ met. IsJobOf met job)

-- the arguments ask for no job, by this fault: an error of clap's, of one of the kinds that it has
-- for these arguments; or a fault of what the subcommand is given
abbrev pub IsFault : List Text → JobFault → Type 0
IsFault arguments (Arguments error) = IsAmong (kind_of error) (fault_of d64sh arguments) × (kind_of error ≢ OutOfMemory)
IsFault arguments Memory = ⊤
IsFault arguments fault = IsUse arguments (λ met. IsFaultOf met fault)

-- the fault for an error of clap's: memory ran out, or the error itself
abbrev pub IsReportedAs : Error → JobFault → Type 0
IsReportedAs error (Arguments reported) = (reported ≡ error) × (kind_of error ≢ OutOfMemory)
IsReportedAs error Memory = kind_of error ≡ OutOfMemory
IsReportedAs error fault = ⊥

-- a fault for an error of this kind of clap's: one that has this kind; or memory ran out
abbrev pub IsFaultOfKind : ErrorKind → JobFault → Type 0
IsFaultOfKind kind (Arguments error) = (kind_of error ≡ kind) × (kind ≢ OutOfMemory)
IsFaultOfKind kind Memory = ⊤
IsFaultOfKind kind fault = ⊥

-- after the first of the arguments comes the name of this subcommand
abbrev pub GoesOnWith : List Text → Subcommand → Type 0
GoesOnWith arguments subcommand = (rest : List Text) × (drop 1 arguments ≡ name_for subcommand ∷ rest)

-- the fault is the help or the version that the arguments asked for
abbrev pub IsHelpOrVersion : JobFault → Type 0
IsHelpOrVersion (Arguments error) = (kind_of error ≡ DisplayHelp) ⊎ (kind_of error ≡ DisplayVersion)
IsHelpOrVersion fault = ⊥
