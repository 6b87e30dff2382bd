use Rattle.std.proofs.Common.{◌≡◌, ℕ, ◌+◌, List, ◌++◌, [], None, drop, get_or, refl, ap, ◌∙◌, subst, string_bytes, Bor, arith}
use Rattle.host_names.specs.Paths.{with_slash}
use Rattle.cmd_extract.specs.Work.{CallReturns, Folder}
use Rattle.cmd_extract.proofs.Steps.{stops, further, match_not}
use Rattle.host_names.proofs.FolderLists.{texts, next_folder, no_folder}
use Rattle.cmd_extract.proofs.FolderSteps.{had_folder, lacked_folder, had_all}
use Rattle.cmd_extract.proofs.folders.have_folders.Goals as goal

-- a folder with an empty path
abbrev nowhere : Bor (List ℕ)
nowhere = record { ref_ptr = (0, 0); now = [] }

pub returns-in_err-push_str : goal.returns-in_err-push_str
returns-in_err-push_str g c = λ rest. match_not c.from_residual.result _ _ c.from_residual.ensures.0 (c.loop-folder.invariant rest None _ (stops _ _))

pub returns-then-not-have_folder : goal.returns-then-not-have_folder
returns-then-not-have_folder g c = λ rest.
    let folders = c.args.folders.now in
    let k = c.loop-folder.folder-index in
    let path = string_bytes c.push_str.new.self in
    let old = g.H.Host.state c.loop-folder.host in
    let now = g.H.Host.state c.have_folder.new.host in
    let says : CallReturns (Folder path) old c.have_folder.result now = subst (λ (p : List ℕ). CallReturns (Folder p) old c.have_folder.result now) c.deref.ensures c.have_folder.ensures in
    further _ _ _ _ _ _ (c.loop-folder.invariant rest)
    (lacked_folder rest (string_bytes c.loop-folder.place) (get_or folders k nowhere).now path (texts (drop (k + 1) folders)) (texts (drop k folders)) old now c.have_folder.result
    (next_folder folders k nowhere c.loop-folder-test.true) c.in_ok-push_str.ensures.bytes says c.if-not-have_folder.true)

pub returns-in_err-push : goal.returns-in_err-push
returns-in_err-push g c = λ rest.
    let folders = c.args.folders.now in
    let k = c.loop-folder.folder-index in
    let path = string_bytes c.push_str.new.self in
    let old = g.H.Host.state c.loop-folder.host in
    let now = g.H.Host.state c.have_folder.new.host in
    let says : CallReturns (Folder path) old c.have_folder.result now = subst (λ (p : List ℕ). CallReturns (Folder p) old c.have_folder.result now) c.deref.ensures c.have_folder.ensures in
    match_not c.from_residual-in_err-push.result _ _ c.from_residual-in_err-push.ensures.0
    (c.loop-folder.invariant rest None now
    (had_folder rest (string_bytes c.loop-folder.place) (get_or folders k nowhere).now path (with_slash path) (texts (drop (k + 1) folders)) (texts (drop k folders)) old now c.have_folder.result
    (next_folder folders k nowhere c.loop-folder-test.true) c.in_ok-push_str.ensures.bytes refl says c.if-not-have_folder.false None now (stops _ _)))

pub loop-folder-preserved : goal.loop-folder-preserved
loop-folder-preserved g c = λ rest.
    let folders = c.args.folders.now in
    let k = c.loop-folder.folder-index in
    let path = string_bytes c.push_str.new.self in
    let old = g.H.Host.state c.loop-folder.host in
    let now = g.H.Host.state c.have_folder.new.host in
    let says : CallReturns (Folder path) old c.have_folder.result now = subst (λ (p : List ℕ). CallReturns (Folder p) old c.have_folder.result now) c.deref.ensures c.have_folder.ensures in
    let slashed : string_bytes c.push.new.self ≡ with_slash path =
    c.in_ok-push.ensures.bytes ∙ ap (λ (e : List ℕ). path ++ e) (c.in_ok-push.ensures.ascii (omega arith)) in
    further _ _ _ _ _ _ (c.loop-folder.invariant rest)
    (had_folder rest (string_bytes c.loop-folder.place) (get_or folders k nowhere).now path (string_bytes c.push.new.self) (texts (drop (k + 1) folders)) (texts (drop k folders)) old now
    c.have_folder.result (next_folder folders k nowhere c.loop-folder-test.true) c.in_ok-push_str.ensures.bytes slashed says c.if-not-have_folder.false)

pub returns : goal.returns
returns g c = λ rest.
    further _ _ _ _ _ _ (c.loop-folder.invariant rest)
    (had_all rest (string_bytes c.loop-folder.place) _ (g.H.Host.state c.loop-folder.host) (no_folder c.args.folders.now c.loop-folder.folder-index c.loop-folder-test.false))
