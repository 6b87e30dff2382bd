-- What is printed of the files of an image.
use Rattle.std.specs.Prelude.{ℕ, Bool, List, [], ◌∷◌, ◌++◌, if◌then◌else◌, codes}
use Rattle.std.specs.List.{flat_map}
use Rattle.d64_image.specs.Disk.{Disk, Bytes}
use Rattle.d64_survey.specs.Dump.{DumpView}
use Rattle.d64_leftovers.specs.Rows.{wanted_rows}
use Rattle.d64_leftovers.specs.declared.row.ListedRow.{ListedRow}
use Rattle.d64_leftovers.specs.declared.selection.Selection.{Selection}
use Rattle.d64_inventory.specs.ListingAmiss.{is_listing_amiss}
use Rattle.program_arguments.specs.declared.jobs.Format.{Format}
use Rattle.program_arguments.specs.declared.jobs.Format.TheVariants.{Text, Json, Csv}
use Rattle.program_arguments.specs.declared.jobs.Leftovers.{Leftovers}
use Rattle.out_json_csv.specs.Values.{line_of}
use Rattle.out_json_csv.specs.FailedDumps.{unread_object, no_dump_object, no_dump_error}
use Rattle.program_surveys.specs.FileOutcomes.{Rule}
use Rattle.program_surveys.specs.Printings.{Printing, survey_rule}
use Rattle.out_files.specs.CsvRow.{csv_row, file_header_row, failed_file_row}
use Rattle.cmd_files.specs.Selections.{files_alone, deleted_alone, orphans_alone}
use Rattle.out_files.specs.Forms.{files_and, before_rows, after_rows}
use Rattle.out_files.specs.RowObject.{row_object}
use Rattle.out_files.specs.RowText.{line_of_row}
use Rattle.out_files.specs.declared.form.Form.{Form}
use Rattle.cmd_files.specs.declared.printing.Section.{Section}
use Rattle.cmd_files.specs.declared.printing.Section.TheVariants.{Deleted, Orphans}

-- what is printed of a row of an image with this host name, in a format
abbrev pub row_printed : Format → Leftovers → Bytes → Disk → ListedRow → List ℕ
row_printed Text leftovers name image row = line_of_row image row
row_printed Json leftovers name image row = line_of (row_object leftovers name row)
row_printed Csv leftovers name image row = csv_row leftovers name row

-- the same in a form
abbrev pub printed_row : Form → Bytes → Disk → ListedRow → List ℕ
printed_row form name image row = row_printed form.format form.leftovers name image row

-- what is printed of the rows of a dump that are wanted, in their order
unfoldable pub printed_rows : Form → Selection → Bytes → DumpView → List ℕ
printed_rows form wanted name dump = flat_map (printed_row form name dump.image) (wanted_rows wanted dump)

-- lines under a heading, which is left out if there are no lines
abbrev pub under_heading : List ℕ → List ℕ → List ℕ
under_heading heading [] = []
under_heading heading (byte ∷ bytes) = heading ++ byte ∷ bytes

-- of a section of a table, which has a heading of its own: whether it is wanted, its rows, and the
-- heading
abbrev pub is_section_wanted : Section → Leftovers → Bool
is_section_wanted Deleted leftovers = leftovers.deleted
is_section_wanted Orphans leftovers = leftovers.orphans

abbrev pub section_rows : Section → Selection
section_rows Deleted = deleted_alone
section_rows Orphans = orphans_alone

abbrev pub section_heading : Section → List ℕ
section_heading Deleted = codes "deleted\n"
section_heading Orphans = codes "in no directory\n"

-- that in a table, where it is wanted
abbrev pub section_of : Form → Section → Bytes → DumpView → List ℕ
section_of form section name dump =
    if is_section_wanted section form.leftovers then under_heading (section_heading section) (printed_rows form (section_rows section) name dump) else []

-- what is printed of a dump between what comes before and after its rows: as text, files and then
-- what is left over under headings; else all in one list, in the order of the slots
abbrev pub all_rows : Format → Form → Bytes → DumpView → List ℕ
all_rows Text form name dump = printed_rows form files_alone name dump ++ (section_of form Deleted name dump ++ section_of form Orphans name dump)
all_rows Json form name dump = printed_rows form (files_and form.leftovers) name dump
all_rows Csv form name dump = printed_rows form (files_and form.leftovers) name dump

-- what is printed of a dump
unfoldable pub printed_of : Form → Bytes → DumpView → List ℕ
printed_of form name dump =
    before_rows form.format name dump.image ++ (all_rows form.format form name dump ++ after_rows form.format dump)

-- what is printed of a file that cannot be read
abbrev pub printed_unread : Format → Leftovers → Bytes → List ℕ
printed_unread Text leftovers name = []
printed_unread Json leftovers name = line_of (unread_object name)
printed_unread Csv leftovers name = failed_file_row leftovers name (codes "cannot be read")

-- what is printed of bytes that are not a dump
abbrev pub printed_no_dump : Format → Leftovers → Bytes → Bytes → List ℕ
printed_no_dump Text leftovers name bytes = []
printed_no_dump Json leftovers name bytes = line_of (no_dump_object name bytes)
printed_no_dump Csv leftovers name bytes = failed_file_row leftovers name (no_dump_error bytes)

-- what is printed before the first result: the header row of CSV
abbrev pub heading_by : Format → Leftovers → List ℕ
heading_by Text leftovers = []
heading_by Json leftovers = []
heading_by Csv leftovers = file_header_row leftovers

abbrev pub file_heading_of : Form → List ℕ
file_heading_of form = heading_by form.format form.leftovers

-- what `files` prints in a form; a dump is amiss if a file is not whole or may be missing
abbrev pub files_printing : Form → Printing
files_printing form = record {
  heading = file_heading_of form;
  of_dump = λ name bytes dump. printed_of form name dump;
  of_unread = printed_unread form.format form.leftovers;
  of_no_dump = printed_no_dump form.format form.leftovers;
  is_amiss = is_listing_amiss;
}

-- the rule of `files` in a form: the result for a file's bytes, or that it cannot be read
abbrev pub files_rule : Form → Rule
files_rule form = survey_rule (files_printing form)
