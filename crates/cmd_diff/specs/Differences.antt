-- What is printed of two dumps.
use Rattle.std.specs.Prelude.{ℕ, ◌==◌, ◌&&◌, Bool, nat_eq, List, [], ◌∷◌, ◌++◌, length, Option, Some, None, Ok, Err, if◌then◌else◌, codes}
use Rattle.std.specs.List.{flat_map}
use Rattle.std.specs.Cmp.Lexicographic.{pointwise}
use Rattle.d64_image.specs.Disk.{Bytes, Blocks}
use Rattle.d64_image.specs.Image.{bytes_of}
use Rattle.d64_survey.specs.Dump.{DumpView, code_bytes}
use Rattle.out_json_csv.specs.Values.{line_of}
use Rattle.d64_g64.specs.DumpOf.{dump_of}
use Rattle.program_surveys.specs.FileOutcomes.{FileOutcome}
use Rattle.program_surveys.specs.declared.report.Verdict.TheVariants.{Clean, Amiss, Failed}
use Rattle.program_arguments.specs.declared.jobs.DiffForm.{DiffForm}
use Rattle.program_arguments.specs.declared.jobs.DiffForm.TheVariants.{Text, Json}
use Rattle.cmd_diff.specs.Changes.{DumpChange, changes}
use Rattle.cmd_diff.specs.ChangeObject.{blocks_object, change_object}
use Rattle.cmd_diff.specs.ChangeText.{blocks_line, change_lines, heading}
use Rattle.program_surveys.specs.FileContents.{Contents, contents_fault_line, printed_contents_fault}

-- what is printed of a change
abbrev pub printed_change : DiffForm → DumpChange → List ℕ
printed_change Text change = change_lines change
printed_change Json change = line_of (change_object change)

-- what is printed of changes, in their order
unfoldable pub printed_changes : DiffForm → List DumpChange → List ℕ
printed_changes form list = flat_map (printed_change form) list

-- what is printed of blocks: a line that begins with this heading, or an object whose change has
-- this name
abbrev pub printed_list : DiffForm → List ℕ → List ℕ → Blocks → List ℕ
printed_list Text heading word blocks = blocks_line heading blocks
printed_list Json heading word blocks = line_of (blocks_object word blocks)

-- the same, or nothing if there are no blocks
abbrev pub printed_blocks : DiffForm → List ℕ → List ℕ → Blocks → List ℕ
printed_blocks form heading word [] = []
printed_blocks form heading word (block ∷ blocks) = printed_list form heading word (block ∷ blocks)

-- these lines for people, below the names of the files; without lines the files differ only in good
-- read codes
unfoldable pub under_names : Bytes → Bytes → List ℕ → List ℕ
under_names old_name new_name lines = if length lines == 0 then codes "only good read codes differ\n" else heading old_name new_name ++ lines

-- what is printed of two dumps that differ in a byte
abbrev pub printed_difference : DiffForm → Bytes → Bytes → DumpView → DumpView → List ℕ
printed_difference Text old_name new_name old new = under_names old_name new_name (printed_changes Text (changes old new))
printed_difference Json old_name new_name old new = printed_changes Json (changes old new)

-- the result if one of two files, or both, cannot be compared
abbrev pub failed_pair : DiffForm → Bytes → Contents → Bytes → Contents → FileOutcome
failed_pair form old_name old new_name new =
    record { printed = printed_contents_fault form old_name old ++ printed_contents_fault form new_name new; complaint = contents_fault_line old_name old ++ contents_fault_line new_name new; verdict = Failed }

-- the result for two dumps that differ in a byte
abbrev pub amiss_with : List ℕ → FileOutcome
amiss_with printed = record { printed = printed; complaint = []; verdict = Amiss }

-- the result for two dumps that do not
abbrev pub silence : FileOutcome
silence = record { printed = []; complaint = []; verdict = Clean }

-- two dumps have the same bytes: those of the blocks, and those of the codes
abbrev pub are_same : DumpView → DumpView → Bool
are_same old new = pointwise nat_eq (bytes_of old.image) (bytes_of new.image) && pointwise nat_eq (code_bytes old.codes) (code_bytes new.codes)

-- the result for two files by the dumps that they are: nothing is printed if these have the same
-- bytes, and otherwise what changed
abbrev pub difference_by : DiffForm → Bytes → Bytes → Bytes → Bytes → Option DumpView → Option DumpView → FileOutcome
difference_by form old_name old new_name new (Some old_dump) (Some new_dump) =
    if are_same old_dump new_dump then silence else amiss_with (printed_difference form old_name new_name old_dump new_dump)
difference_by form old_name old new_name new (Some old_dump) None = failed_pair form old_name (Ok old) new_name (Ok new)
difference_by form old_name old new_name new None new_dump = failed_pair form old_name (Ok old) new_name (Ok new)

-- the rule of `diff` in a form: the result for the bytes of an old file and a new one, or for the
-- reasons why they cannot be read
abbrev pub difference_rule : DiffForm → Bytes → Contents → Bytes → Contents → FileOutcome
difference_rule form old_name (Ok old) new_name (Ok new) = difference_by form old_name old new_name new (dump_of old) (dump_of new)
difference_rule form old_name (Ok old) new_name (Err reason) = failed_pair form old_name (Ok old) new_name (Err reason)
difference_rule form old_name (Err reason) new_name new = failed_pair form old_name (Err reason) new_name new
