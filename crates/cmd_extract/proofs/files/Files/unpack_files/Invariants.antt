use Rattle.d64_leftovers.specs.Rows.{wanted_rows}
use Rattle.out_files.specs.Forms.{files_and}
use Rattle.cmd_extract.specs.Work.{LeadsTo}
use Rattle.cmd_extract.specs.Progress.{progress_before_files}
use Rattle.cmd_extract.specs.FilesNow.{progress_of_files}
use Rattle.cmd_extract.specs.Unpacking.{files_work}
use Rattle.cmd_extract.proofs.files.Files.unpack_files.Given as goal

abbrev pub invariant-loop-row : goal.invariant-loop-row
invariant-loop-row g l =
    LeadsTo (files_work l.task (wanted_rows (files_and l.task.setup.form.leftovers) l.task.dump) (progress_before_files l.task)) (g.H.Host.state l.fn.host) (files_work l.task l.row-iterator (progress_of_files l.self)) (g.H.Host.state l.host)
