-- What each job does.
use Rattle.std.specs.Prelude.{◌≡◌, ℕ, true, List, [], ◌∷◌, Option, ⊤, map, option_map, string_bytes}
use Rattle.std.specs.Option.{option_and_then}
use Rattle.program_arguments.specs.declared.jobs.Job.{Job}
use Rattle.program_surveys.specs.SurveyFiles.{SurveyFiles, Named, survey_files_of}
use Rattle.cmd_diff.specs.Comparisons.{PairRule}
use Rattle.cmd_shell.specs.Transcript.{RunOptions, home_of}
use Rattle.cmd_basic.specs.declared.tools.Tool.{Tool}
use Rattle.program_arguments.specs.declared.jobs.Job.TheVariants.{Shell, Petcat, Crunch, Check, Files, Extract, Map, Catalogue, Diff, Merge}
use Rattle.program_arguments.specs.declared.jobs.Format.{Format}
use Rattle.program_arguments.specs.declared.jobs.Leftovers.{Leftovers}
use Rattle.program_surveys.specs.FileOutcomes.{Rule}
use Rattle.cmd_check.specs.Check.{check_rule, heading_of as check_heading}
use Rattle.cmd_files.specs.Files.{files_rule, file_heading_of as files_heading}
use Rattle.cmd_extract.specs.Extracts.{extract_heading}
use Rattle.out_files.specs.declared.form.Form.{Form}
use Rattle.cmd_extract.specs.Setup.{ExtractSetupView, setup_of}
use Rattle.cmd_map.specs.Pictures.{map_rule}
use Rattle.cmd_catalogue.specs.Catalogue.{catalogue_rule, catalogue_heading}
use Rattle.cmd_diff.specs.Differences.{difference_rule}
use Rattle.cmd_merge.specs.Setup.{MergeSetupView as MergeView, merge_setup_of}
use Rattle.cmd_basic.specs.declared.tools.Tool.TheVariants as tools
use Rattle.cmd_shell.specs.Beginnings.{Beginning, beginning_of, blank_disk_of, Source, source_of, refusals_of}

-- what is printed of files, in a format, and of what is left over beside them
abbrev pub form_of : Format → Leftovers → Form
form_of format leftovers = record { format = format; leftovers = leftovers }

-- what a job does: it runs a script of some source with options, from a beginning; runs a tool on
-- the input, or on the host file of a name, to the output, or to the host file of a second name;
-- surveys files, by a rule, with a heading before all results; unpacks files, as is asked for, with
-- a heading before all results; compares the files of two names, by a rule; or merges files
pub data JobWork : Type 0 where
  Script : Beginning → Source → RunOptions → JobWork
  Conversion : Tool → Option (List ℕ) → Option (List ℕ) → JobWork
  Survey : Rule → List ℕ → SurveyFiles → JobWork
  Extraction : ExtractSetupView → List ℕ → SurveyFiles → JobWork
  Comparison : PairRule → List ℕ → List ℕ → JobWork
  Merging : MergeView → JobWork

-- what each job does
abbrev pub work_of : Job → JobWork
work_of (Shell image tracks resume lines stops) =
    Script (beginning_of (option_map string_bytes image) (blank_disk_of tracks) (option_map string_bytes resume)) (source_of (map string_bytes lines.items))
    (record { home = option_and_then home_of (option_map string_bytes image); refusals = refusals_of stops })
work_of (Petcat file output) = Conversion tools.Petcat (option_map string_bytes file) (option_map string_bytes output)
work_of (Crunch start file output) = Conversion (tools.Crunch start) (option_map string_bytes file) (option_map string_bytes output)
work_of (Check digest format names) = Survey (check_rule format digest) (check_heading format digest) (survey_files_of names)
work_of (Files leftovers format names) = Survey (files_rule (form_of format leftovers)) (files_heading (form_of format leftovers)) (survey_files_of names)
work_of (Extract requested leftovers format names) =
    Extraction (setup_of requested (form_of format leftovers)) (extract_heading (form_of format leftovers)) (survey_files_of names)
work_of (Map format file) = Survey (map_rule format) [] (Named (string_bytes file ∷ []))
work_of (Catalogue page names) = Survey (catalogue_rule page) (catalogue_heading page) (survey_files_of names)
work_of (Diff format old new) = Comparison (difference_rule format) (string_bytes old) (string_bytes new)
work_of (Merge requested format files) = Merging (merge_setup_of requested format (map string_bytes files.items))

-- the work is a script, which reports nothing if it runs to its end
abbrev pub IsScript : JobWork → Type 0
IsScript (Script beginning source options) = ⊤
IsScript (Conversion tool name target) = ⊥
IsScript (Survey rule heading files) = ⊥
IsScript (Extraction setup heading files) = ⊥
IsScript (Comparison rule old_name new_name) = ⊥
IsScript (Merging setup) = ⊥

-- the work skips folders that exist, and writes a line about each though all is well
abbrev pub PassesOver : JobWork → Type 0
PassesOver (Script beginning source options) = ⊥
PassesOver (Conversion tool name target) = ⊥
PassesOver (Survey rule heading files) = ⊥
PassesOver (Extraction setup heading files) = setup.skips ≡ true
PassesOver (Comparison rule old_name new_name) = ⊥
PassesOver (Merging setup) = ⊥
