-- The result of each file of a survey, by what its printer prints.
use Rattle.std.specs.Prelude.{ℕ, Bool, List, [], Option, Some, None, if◌then◌else◌}
use Rattle.d64_image.specs.Disk.{Bytes}
use Rattle.d64_survey.specs.Dump.{DumpView}
use Rattle.d64_g64.specs.DumpOf.{dump_of}
use Rattle.out_messages.specs.FaultLines.{unread_line, wrong_length_line}
use Rattle.program_surveys.specs.FileOutcomes.{FileOutcome, Rule, file_outcome}
use Rattle.program_surveys.specs.declared.report.Verdict.TheVariants.{Clean, Amiss, Failed}

-- what a printer prints: before the first result, of a file with this name whose bytes are this
-- dump, of one that cannot be read, and of one whose bytes are no dump; and which dumps are amiss
pub record Printing : Type 0 where
  pub heading : List ℕ
  pub of_dump : List ℕ → Bytes → DumpView → List ℕ
  pub of_unread : List ℕ → List ℕ
  pub of_no_dump : List ℕ → Bytes → List ℕ
  pub is_amiss : DumpView → Bool

-- the result for bytes, which are this dump or none: what is printed of it, and amiss or clean; or
-- what is printed of bytes that are no dump, and a line on the standard error
abbrev pub bytes_outcome : Printing → List ℕ → Bytes → Option DumpView → FileOutcome
bytes_outcome printing name bytes None = file_outcome (printing.of_no_dump name bytes) (wrong_length_line name bytes) Failed
bytes_outcome printing name bytes (Some dump) = file_outcome (printing.of_dump name bytes dump) [] (if printing.is_amiss dump then Amiss else Clean)

-- the rule of a survey: the result for a file's bytes, or that it cannot be read
abbrev pub survey_rule : Printing → Rule
survey_rule printing name None = file_outcome (printing.of_unread name) (unread_line name) Failed
survey_rule printing name (Some bytes) = bytes_outcome printing name bytes (dump_of bytes)
