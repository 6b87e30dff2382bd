-- How far the code has come with the files of an image.
use Rattle.cmd_extract.specs.Progress.{Progress}
use Rattle.cmd_extract.specs.declared.files.Files.{Files}

-- how far it has come, by the fields of `Files`
abbrev pub progress_of_files : Files → Progress
progress_of_files files = record {
  left = files.extraction;
  taken = files.taken;
  printed = files.reported.printed.items;
  lines = files.reported.lines.items;
  list = files.reported.list;
  complaint = files.reported.complaint.items;
  has_failed = files.reported.has_failed;
}
