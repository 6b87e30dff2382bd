use Rattle.std.proofs.Common.{◌≡◌, ℕ, List, ◌++◌, ap, ◌∙◌, subst, string_bytes}
use Rattle.host_names.specs.ImagePlace.{folders_of, finished_name, unfinished_name}
use Rattle.cmd_extract.specs.declared.unpacker.Unpacker.{Unpacker}
use Rattle.host_names.specs.Paths.{path_inside, place_below, done_path, partial_path}
use Rattle.cmd_extract.specs.Work.{Work, EndsWork}
use Rattle.host_names.proofs.FolderLists.{texts}
use Rattle.cmd_extract.proofs.GivenFiles.{task_made}
use Rattle.cmd_extract.proofs.Steps.{stops, ends_not}
use Rattle.cmd_extract.proofs.unpacker.Unpacker.unpack_dump.Goals as goal

pub returns-in_err-all-clause-done : goal.returns-in_err-all-clause-done
returns-in_err-all-clause-done g c = ends_not c.from_residual.result _ _ _ _ c.from_residual.ensures.0 (stops _ _)

pub returns-in_err-place-clause-done : goal.returns-in_err-place-clause-done
returns-in_err-place-clause-done g c = ends_not c.from_residual-in_err-place.result _ _ _ _ c.from_residual-in_err-place.ensures.0 (stops _ _)

pub returns-in_err-done-clause-done : goal.returns-in_err-done-clause-done
returns-in_err-done-clause-done g c = ends_not c.from_residual-in_err-done.result _ _ _ _ c.from_residual-in_err-done.ensures.0 (stops _ _)

pub returns-in_err-partial-clause-done : goal.returns-in_err-partial-clause-done
returns-in_err-partial-clause-done g c = ends_not c.from_residual-in_err-partial.result _ _ _ _ c.from_residual-in_err-partial.ensures.0 (stops _ _)

pub returns-clause-done : goal.returns-clause-done
returns-clause-done g c =
    let setup = c.args.self.now.setup in
    let name = c.args.name.now in
    let folders = texts c.in_ok-place.place.folders.items in
    let last = c.in_ok-place.place.last.now in
    let done_into : c.deref.result.now ≡ setup.into = c.deref.ensures ∙ ap (λ (u : Unpacker). u.setup.into) c.self.view_is in
    let partial_into : c.deref-2.result.now ≡ setup.into = c.deref-2.ensures ∙ ap (λ (u : Unpacker). u.setup.into) c.self.view_is in
    let is_done : string_bytes c.in_ok-done.done ≡ done_path setup.into name =
    c.in_ok-done.ensures ∙ ap (λ (i : List ℕ). place_below (path_inside i) folders ++ finished_name last) done_into
    ∙ ap (λ (fs : List (List ℕ)). place_below (path_inside setup.into) fs ++ finished_name last) c.in_ok-place.ensures.folders
    ∙ ap (λ (l : List ℕ). place_below (path_inside setup.into) (folders_of name) ++ finished_name l) c.in_ok-place.ensures.last in
    let is_partial : string_bytes c.in_ok-partial.partial ≡ partial_path setup.into name =
    c.in_ok-partial.ensures ∙ ap (λ (i : List ℕ). place_below (path_inside i) folders ++ unfinished_name last) partial_into
    ∙ ap (λ (fs : List (List ℕ)). place_below (path_inside setup.into) fs ++ unfinished_name last) c.in_ok-place.ensures.folders
    ∙ ap (λ (l : List ℕ). place_below (path_inside setup.into) (folders_of name) ++ unfinished_name l) c.in_ok-place.ensures.last in
    subst (λ (w : Work). EndsWork c.unpack.result c.unpack.new.buffer w (g.H.Host.state c.args.host.now) (g.H.Host.state c.unpack.new.host))
    (task_made setup _ name c.args.self.now.dump c.in_ok-all.all (string_bytes c.in_ok-done.done) (string_bytes c.in_ok-partial.partial) (texts c.as_slice.result.now) (ap (λ (u : Unpacker). u.setup) c.self.view_is)
    (c.in_ok-all.ensures ∙ ap (λ (u : Unpacker). u.dump) c.self.view_is) is_done
    is_partial (ap texts c.as_slice.ensures.value ∙ c.in_ok-place.ensures.folders)) c.unpack.ensures
