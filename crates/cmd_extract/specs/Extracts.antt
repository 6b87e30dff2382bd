-- What is printed of images whose files are written to the host.
use Rattle.std.specs.Prelude.{ℕ, List, [], Option}
use Rattle.d64_image.specs.Disk.{Disk, Bytes}
use Rattle.d64_leftovers.specs.declared.row.ListedRow.{ListedRow}
use Rattle.program_arguments.specs.declared.jobs.Format.{Format}
use Rattle.program_arguments.specs.declared.jobs.Format.TheVariants.{Text, Json, Csv}
use Rattle.program_arguments.specs.declared.jobs.Leftovers.{Leftovers}
use Rattle.out_json_csv.specs.Values.{line_of}
use Rattle.out_json_csv.specs.FailedDumps.{failed_object, no_dump_object, no_dump_error}
use Rattle.out_files.specs.declared.form.Form.{Form}
use Rattle.cmd_extract.specs.Extracted.{extracted_object, extracted_row, extracted_line, extracted_header, unextracted_row}

-- what is printed of a row of an image with this host name, and the path of its host file, in a
-- format
abbrev pub file_printed : Format → Leftovers → Bytes → Disk → ListedRow → Option Bytes → List ℕ
file_printed Text leftovers name image row path = extracted_line image row path
file_printed Json leftovers name image row path = line_of (extracted_object leftovers name row path)
file_printed Csv leftovers name image row path = extracted_row leftovers name row path

-- the same in a form
abbrev pub printed_file : Form → Bytes → Disk → ListedRow → Option Bytes → List ℕ
printed_file form name image row path = file_printed form.format form.leftovers name image row path

-- what is printed of an image that is not extracted, for this error
abbrev pub error_printed : Format → Leftovers → Bytes → List ℕ → List ℕ
error_printed Text leftovers name error = []
error_printed Json leftovers name error = line_of (failed_object name error)
error_printed Csv leftovers name error = unextracted_row leftovers name error

abbrev pub printed_error : Form → Bytes → List ℕ → List ℕ
printed_error form name error = error_printed form.format form.leftovers name error

-- what is printed of a file with these bytes, which is not a dump
abbrev pub length_printed : Format → Leftovers → Bytes → Bytes → List ℕ
length_printed Text leftovers name bytes = []
length_printed Json leftovers name bytes = line_of (no_dump_object name bytes)
length_printed Csv leftovers name bytes = unextracted_row leftovers name (no_dump_error bytes)

abbrev pub printed_length : Form → Bytes → Bytes → List ℕ
printed_length form name bytes = length_printed form.format form.leftovers name bytes

-- what is printed before the first result: the header row of CSV
abbrev pub extract_heading_by : Format → Leftovers → List ℕ
extract_heading_by Text leftovers = []
extract_heading_by Json leftovers = []
extract_heading_by Csv leftovers = extracted_header leftovers

abbrev pub extract_heading : Form → List ℕ
extract_heading form = extract_heading_by form.format form.leftovers
