-- The options of an extraction, and an image that is unpacked.
use Rattle.std.specs.Prelude.{ℕ, Bool, List, codes, string_bytes}
use Rattle.d64_survey.specs.Dump.{DumpView}
use Rattle.program_arguments.specs.declared.jobs.Extraction.{Extraction as RequestedExtraction}
use Rattle.out_files.specs.declared.form.Form.{Form}
use Rattle.host_names.specs.Paths.{path_in}

-- the options: the folder below which all is written, whether parts are written too, whether
-- complete images are skipped, and the form of the output
pub record ExtractSetupView : Type 0 where
  pub into : List ℕ
  pub with_parts : Bool
  pub skips : Bool
  pub form : Form

-- an image that is unpacked: the options, the name of its file on the host, the dump that was read
-- of it, and the paths of its folder once it is complete, and before
pub record TaskView : Type 0 where
  pub setup : ExtractSetupView
  pub name : List ℕ
  pub dump : DumpView
  pub done : List ℕ
  pub partial : List ℕ

-- the path of the list of the files of an image in a folder
abbrev pub list_in : List ℕ → List ℕ
list_in folder = path_in folder (codes "files.jsonl")

-- the path of the list while the image is being unpacked
abbrev pub list_path : TaskView → List ℕ
list_path task = list_in task.partial

-- the options of an extraction that the arguments give, in a form of the output
abbrev pub setup_of : RequestedExtraction → Form → ExtractSetupView
setup_of requested form = record { into = string_bytes requested.into; with_parts = requested.part; skips = requested.skip_existing; form = form }
