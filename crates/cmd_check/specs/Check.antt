-- What `check` prints of a file.
use Rattle.std.specs.Prelude.{ℕ, Bool, List, [], Option, Some, None, if◌then◌else◌, codes}
use Rattle.sha2.specs.Sha256.{sha256}
use Rattle.d64_image.specs.Disk.{Bytes}
use Rattle.d64_survey.specs.Dump.{DumpView}
use Rattle.d64_survey.specs.Inspection.{is_amiss}
use Rattle.program_arguments.specs.declared.jobs.Format.{Format}
use Rattle.program_arguments.specs.declared.jobs.Format.TheVariants.{Text, Json, Csv}
use Rattle.out_json_csv.specs.Values.{line_of}
use Rattle.cmd_check.specs.Checks.{check_object, check_row}
use Rattle.cmd_check.specs.CheckRows.{header_row, failed_row}
use Rattle.out_json_csv.specs.FailedDumps.{unread_object, no_dump_object, no_dump_error}
use Rattle.cmd_check.specs.CheckText.{check_text}
use Rattle.program_surveys.specs.FileOutcomes.{Rule}
use Rattle.program_surveys.specs.Printings.{Printing, survey_rule}

-- the digest of bytes, if it is asked for
abbrev pub digest_of : Bool → Bytes → Option Bytes
digest_of asked bytes = if asked then Some (sha256 bytes) else None

-- what is printed of a dump
abbrev pub check_printed_of : Format → List ℕ → DumpView → Option Bytes → List ℕ
check_printed_of Text name dump digest = check_text name dump
check_printed_of Json name dump digest = line_of (check_object dump name digest)
check_printed_of Csv name dump digest = check_row dump name digest

-- what is printed of a file that cannot be read
abbrev pub check_printed_unread : Format → Bool → List ℕ → List ℕ
check_printed_unread Text digest name = []
check_printed_unread Json digest name = line_of (unread_object name)
check_printed_unread Csv digest name = failed_row name digest (codes "cannot be read")

-- what is printed of bytes that are not a dump
abbrev pub check_printed_no_dump : Format → Bool → List ℕ → Bytes → List ℕ
check_printed_no_dump Text digest name bytes = []
check_printed_no_dump Json digest name bytes = line_of (no_dump_object name bytes)
check_printed_no_dump Csv digest name bytes = failed_row name digest (no_dump_error bytes)

-- what is printed before the first result: the header row of CSV
abbrev pub heading_of : Format → Bool → List ℕ
heading_of Text digest = []
heading_of Json digest = []
heading_of Csv digest = header_row digest

-- what `check` prints in a form, with digests or without
abbrev pub check_printing : Format → Bool → Printing
check_printing form digest = record {
  heading = heading_of form digest;
  of_dump = λ name bytes dump. check_printed_of form name dump (digest_of digest bytes);
  of_unread = check_printed_unread form digest;
  of_no_dump = check_printed_no_dump form digest;
  is_amiss = is_amiss;
}

-- the rule of `check` in a form, with digests or without: the result for a file's bytes, or that it
-- cannot be read
abbrev pub check_rule : Format → Bool → Rule
check_rule form digest = survey_rule (check_printing form digest)
