-- What is printed and reported of a merge.
use Rattle.std.specs.Prelude.{ℕ, ◌+◌, ◌==◌, Bool, if◌then◌else◌, List, [], ◌∷◌, ◌++◌, length, Option, Some, None, option_map, Ok, Err}
use Rattle.sha2.specs.Sha256.{sha256}
use Rattle.d64_image.specs.Disk.{Bytes}
use Rattle.d64_survey.specs.Dump.{DumpView}
use Rattle.d64_g64.specs.DumpOf.{dump_of}
use Rattle.d64_merge.specs.Merged.{merged_tracks, choices, outcome_count, keeps_codes, merged}
use Rattle.d64_merge.specs.Left.{left}
use Rattle.d64_merge.specs.declared.choice.Choice.{Choice}
use Rattle.d64_merge.specs.declared.outcome.BlockOutcome.TheVariants.{Lost, First, Conflict}
use Rattle.out_json_csv.specs.Values.{line_of}
use Rattle.out_messages.specs.FaultLines.{present_line, unwritten_line}
use Rattle.program_surveys.specs.FileOutcomes.{FileOutcome}
use Rattle.program_console.specs.Reasons.{with_known_reason}
use Rattle.program_console.specs.declared.reason.Reason.{Reason}
use Rattle.program_surveys.specs.declared.report.Verdict.{Verdict}
use Rattle.program_surveys.specs.declared.report.Verdict.TheVariants.{Clean, Amiss, Failed}
use Rattle.program_arguments.specs.declared.jobs.DiffForm.{DiffForm}
use Rattle.program_arguments.specs.declared.jobs.DiffForm.TheVariants.{Text, Json}
use Rattle.cmd_merge.specs.Setup.{MergeSetupView}
use Rattle.cmd_merge.specs.Objects.{choice_lines, summary_object}
use Rattle.cmd_merge.specs.Lines.{text_report}
use Rattle.program_surveys.specs.FileContents.{Contents, contents_fault_line, printed_contents_fault}

-- what was read: what is printed and reported of the files that are no dumps or cannot be read, the
-- bytes of the others, and their dumps
pub record ReadingsView : Type 0 where
  pub printed : List ℕ
  pub complaint : List ℕ
  pub files : List Bytes
  pub dumps : List DumpView

-- nothing was read
abbrev pub no_readings : ReadingsView
no_readings = record { printed = []; complaint = []; files = []; dumps = [] }

-- one more dump was read
abbrev pub with_dump : Bytes → DumpView → ReadingsView → ReadingsView
with_dump bytes dump readings = record readings { files = readings.files ++ bytes ∷ []; dumps = readings.dumps ++ dump ∷ [] }

-- one more file is no dump or cannot be read
abbrev pub with_fault : DiffForm → Bytes → Contents → ReadingsView → ReadingsView
with_fault form name contents readings = record readings {
  printed = readings.printed ++ printed_contents_fault form name contents;
  complaint = readings.complaint ++ contents_fault_line name contents;
}

-- one more file with these bytes: its dump, or None if it is no dump
abbrev pub with_file_bytes : DiffForm → Bytes → Bytes → Option DumpView → ReadingsView → ReadingsView
with_file_bytes form name bytes (Some dump) readings = with_dump bytes dump readings
with_file_bytes form name bytes None readings = with_fault form name (Ok bytes) readings

-- one more file, of which this was read
abbrev pub with_read_file : DiffForm → Bytes → Contents → ReadingsView → ReadingsView
with_read_file form name (Ok bytes) readings = with_file_bytes form name bytes (dump_of bytes) readings
with_read_file form name (Err reason) readings = with_fault form name (Err reason) readings

-- each file is a dump
abbrev pub are_dumps : ReadingsView → Bool
are_dumps readings = length readings.complaint == 0

-- what becomes of the blocks
abbrev pub choices_of : MergeSetupView → ReadingsView → List Choice
choices_of setup readings = choices setup.preference readings.dumps

-- the dump that is made; None if there is a conflict
abbrev pub made : MergeSetupView → ReadingsView → Option DumpView
made setup readings = merged setup.preference setup.plain readings.dumps

-- what is left on other tracks
abbrev pub left_of : MergeSetupView → ReadingsView → List ℕ
left_of setup readings = left (merged_tracks readings.dumps) (choices_of setup readings) readings.files

-- what is printed in a form
abbrev pub report_by : DiffForm → Bytes → ℕ → Bool → List Bytes → List DumpView → List Choice → List ℕ → Option Bytes → List ℕ
report_by Text out tracks with_codes names dumps list left digest = text_report out tracks with_codes names dumps list left digest
report_by Json out tracks with_codes names dumps list left digest =
    choice_lines names dumps list ++ line_of (summary_object out tracks with_codes list left digest)

-- what is printed of a merge, with the digest of the file that was made; None if none was
abbrev pub report_of : MergeSetupView → ReadingsView → Option Bytes → List ℕ
report_of setup readings digest =
    report_by setup.form setup.out (merged_tracks readings.dumps) (keeps_codes setup.plain readings.dumps) setup.names readings.dumps
    (choices_of setup readings) (left_of setup readings) digest

-- the result if the file that was to be made is there already
abbrev pub file_present_outcome : MergeSetupView → FileOutcome
file_present_outcome setup = record { printed = []; complaint = present_line setup.out; verdict = Failed }

-- the result if a file is no dump or cannot be read
abbrev pub faulted_outcome : ReadingsView → FileOutcome
faulted_outcome readings = record { printed = readings.printed; complaint = readings.complaint; verdict = Failed }

-- the verdict: amiss if a block is lost, taken from the first good copy, or in conflict, else clean
abbrev pub merge_verdict : List Choice → Verdict
merge_verdict list = if outcome_count Lost list + outcome_count First list + outcome_count Conflict list == 0 then Clean else Amiss

-- the result if the file was made of these bytes; None if a conflict forbade it
abbrev pub merged_outcome : MergeSetupView → ReadingsView → Option Bytes → FileOutcome
merged_outcome setup readings bytes =
    record { printed = report_of setup readings (option_map sha256 bytes); complaint = []; verdict = merge_verdict (choices_of setup readings) }

-- the result if the file cannot be made, with the reason, if one is known
abbrev pub unwritten_outcome : MergeSetupView → ReadingsView → Option Reason → FileOutcome
unwritten_outcome setup readings reason =
    record { printed = report_of setup readings None; complaint = with_known_reason reason (unwritten_line setup.out); verdict = Failed }
