-- What a merge is asked for.
use Rattle.std.specs.Prelude.{Bool, ℕ, List, string_bytes}
use Rattle.d64_image.specs.Disk.{Bytes}
use Rattle.d64_merge.specs.declared.outcome.Preference.{Preference}
use Rattle.program_arguments.specs.declared.jobs.DiffForm.{DiffForm}
use Rattle.program_arguments.specs.declared.jobs.Merging.{Merging as RequestedMerging}

-- the file that is made, what is to be done if good copies differ, whether read codes are left out,
-- the form of the output, and the files whose dumps are merged
pub record MergeSetupView : Type 0 where
  pub out : Bytes
  pub preference : Preference
  pub plain : Bool
  pub form : DiffForm
  pub names : List Bytes

-- what a merge of these files is asked for by the arguments, in a form of the output
abbrev pub merge_setup_of : RequestedMerging → DiffForm → List (List ℕ) → MergeSetupView
merge_setup_of requested form files = record {
  out = string_bytes requested.output;
  preference = record { majority = requested.majority; first = requested.first };
  plain = requested.plain;
  form = form;
  names = files;
}
