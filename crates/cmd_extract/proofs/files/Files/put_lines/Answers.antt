use Rattle.std.proofs.Common.{◌≡◌, rules, List, ℕ, sym, ◌∙◌, subst}
use Rattle.cmd_extract.specs.Setup.{list_path}
use Rattle.cmd_extract.specs.FilesNow.{progress_of_files}
use Rattle.cmd_extract.specs.Work.{LeadsTo}
use Rattle.cmd_extract.specs.Unpacking.{after_putting, put_work}
use Rattle.cmd_extract.proofs.Steps.{stops, comes_further, comes_not}
use Rattle.cmd_extract.proofs.ListSteps.{put_new, put_more, put_none}
use Rattle.cmd_extract.proofs.files.Files.put_lines.Goals as goal

pub returns-in_err-put_path : goal.returns-in_err-put_path
returns-in_err-put_path g c = λ rest. comes_not c.from_residual.result _ _ _ _ c.from_residual.ensures.0 (stops _ _)

pub returns-in-New : goal.returns-in-New
returns-in-New g c = λ rest.
    let task = c.args.task.now in
    let p = progress_of_files c.args.self.now in
    let old = g.H.Host.state c.args.host.now in
    let now = g.H.Host.state c.make_file-is_put.new.host in
    let path_is : c.put_path.new.path.items ≡ list_path task = search rules in
    comes_further c.end_piece.result _ (after_putting task p rest c.make_file-is_put.result) _ old now now
    (put_new task p rest c.args.self.now.reported.list c.deref-in-New.result.now c.deref-in-New-2.result.now old now c.make_file-is_put.result c.in-New.is
    (c.deref-in-New.ensures.value ∙ path_is) c.deref-in-New-2.ensures.value c.make_file-is_put.ensures)
    (c.end_piece.ensures task rest path_is)

pub returns-in-Begun : goal.returns-in-Begun
returns-in-Begun g c = λ rest.
    let task = c.args.task.now in
    let p = progress_of_files c.args.self.now in
    let old = g.H.Host.state c.args.host.now in
    let now = g.H.Host.state c.extend_file-is_put.new.host in
    let path_is : c.put_path.new.path.items ≡ list_path task = search rules in
    comes_further c.end_piece-in-Begun.result _ (after_putting task p rest c.extend_file-is_put.result) _ old now now
    (put_more task p rest c.args.self.now.reported.list c.deref-in-Begun.result.now c.deref-in-Begun-2.result.now old now c.extend_file-is_put.result c.in-Begun.is
    (c.deref-in-Begun.ensures.value ∙ path_is) c.deref-in-Begun-2.ensures.value c.extend_file-is_put.ensures)
    (c.end_piece-in-Begun.ensures task rest path_is)

pub returns-in-GivenUp : goal.returns-in-GivenUp
returns-in-GivenUp g c = λ rest.
    let task = c.args.task.now in
    let p = progress_of_files c.args.self.now in
    let list = c.args.self.now.reported.list in
    let host = g.H.Host.state c.args.host.now in
    subst (λ (l : List ℕ). LeadsTo (put_work list task p rest) host (rest (record p { lines = l })) host) (sym c.clear.ensures.items) (put_none task p rest list host c.in-GivenUp.is)
