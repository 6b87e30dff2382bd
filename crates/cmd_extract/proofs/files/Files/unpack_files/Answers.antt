use Rattle.std.proofs.Common.{◌≡◌, rules, ◌∷◌, None, subst}
use Rattle.cmd_extract.specs.Work.{Work, DoesWork, LeadsTo}
use Rattle.cmd_extract.specs.FilesNow.{progress_of_files}
use Rattle.cmd_extract.specs.Unpacking.{files_work}
use Rattle.cmd_extract.proofs.Steps.{stops, further, comes_not}
use Rattle.cmd_extract.proofs.FileSteps.{next_file}
use Rattle.cmd_extract.proofs.files.Files.unpack_files.Goals as goal

pub returns-in_err-begin : goal.returns-in_err-begin
returns-in_err-begin g c = comes_not c.from_residual.result _ _ _ _ c.from_residual.ensures.0 (stops _ _)

pub loop-row-preserved : goal.loop-row-preserved
loop-row-preserved g c =
    let task = c.args.task.now in
    let row = c.in-Some.row in
    let later = c.next.new.self in
    let step : c.loop-row.row-iterator ≡ row ∷ later = search rules in
    further _ _ _ _ _ _ c.loop-row.invariant
    (subst (λ (w : Work). LeadsTo w (g.H.Host.state c.loop-row.host) (files_work task later (progress_of_files c.unpack_row.new.self)) (g.H.Host.state c.unpack_row.new.host))
    (next_file task row later c.loop-row.row-iterator (progress_of_files c.loop-row.self) step) (c.in_ok-unpack_row.ensures (files_work task later)))

pub returns-in_err-unpack_row : goal.returns-in_err-unpack_row
returns-in_err-unpack_row g c =
    let task = c.args.task.now in
    let row = c.in-Some.row in
    let later = c.next.new.self in
    let step : c.loop-row.row-iterator ≡ row ∷ later = search rules in
    comes_not c.from_residual-in_err-unpack_row.result _ _ _ _ c.from_residual-in_err-unpack_row.ensures.0
    (c.loop-row.invariant None (g.H.Host.state c.unpack_row.new.host)
    (subst (λ (w : Work). DoesWork w (g.H.Host.state c.loop-row.host) None (g.H.Host.state c.unpack_row.new.host))
    (next_file task row later c.loop-row.row-iterator (progress_of_files c.loop-row.self) step) (c.in_err-unpack_row.ensures (files_work task later))))
