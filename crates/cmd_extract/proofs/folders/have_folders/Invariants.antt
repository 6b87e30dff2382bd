use Rattle.std.proofs.Common.{ℕ, List, Option, drop, string_bytes}
use Rattle.cmd_extract.specs.Work.{Work, LeadsTo}
use Rattle.cmd_extract.specs.Unpacking.{folders_work}
use Rattle.host_names.proofs.FolderLists.{texts}
use Rattle.cmd_extract.proofs.folders.have_folders.Given as goal

abbrev pub invariant-loop-folder : goal.invariant-loop-folder
invariant-loop-folder g l =
    (rest : Option (List ℕ) → Work) → LeadsTo (folders_work rest (string_bytes l.fn.start) (texts l.folders)) (g.H.Host.state l.fn.host)
    (folders_work rest (string_bytes l.place) (texts (drop l.folder-index l.folders))) (g.H.Host.state l.host)
