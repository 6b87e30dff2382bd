-- The steps that make the folders in which an image's folder lies.
use Rattle.std.proofs.Common.{◌≡◌, ℕ, Bool, true, false, cond, List, [], ◌∷◌, ◌++◌, Option, Some, None, sym, ap, ◌∙◌, subst}
use Rattle.host_storage.specs.Files.{HostState}
use Rattle.host_names.specs.Paths.{with_slash}
use Rattle.cmd_extract.specs.Work.{Work, Folder, CallReturns, LeadsTo}
use Rattle.cmd_extract.specs.Unpacking.{folders_work}
use Rattle.cmd_extract.proofs.Steps.{called, nothing_yet}

-- a folder is there
pub had_folder : (rest : Option (List ℕ) → Work) (place folder path now_place : List ℕ) (later all : List (List ℕ)) (old now : HostState) (said : Bool) → all ≡ folder ∷ later → path ≡ place ++ folder
    → now_place ≡ with_slash path → CallReturns (Folder path) old said now → said ≡ true → LeadsTo (folders_work rest place all) old (folders_work rest now_place later) now
unfolding folders_work
had_folder rest place folder path now_place later all old now said is_all is_path is_place says is_said =
    subst (λ (fs : List (List ℕ)). LeadsTo (folders_work rest place fs) old (folders_work rest now_place later) now) (sym is_all)
    (subst (λ (p : List ℕ). LeadsTo (folders_work rest place (folder ∷ later)) old (folders_work rest p later) now) (sym (is_place ∙ ap with_slash is_path))
    (called (Folder (place ++ folder)) (λ is_had. cond is_had (folders_work rest (with_slash (place ++ folder)) later) (rest (Some (place ++ folder)))) old now true
    (subst (λ (s : Bool). CallReturns (Folder (place ++ folder)) old s now) is_said (subst (λ (p : List ℕ). CallReturns (Folder p) old said now) is_path says))))

-- a folder can't be made
pub lacked_folder : (rest : Option (List ℕ) → Work) (place folder path : List ℕ) (later all : List (List ℕ)) (old now : HostState) (said : Bool) → all ≡ folder ∷ later → path ≡ place ++ folder
    → CallReturns (Folder path) old said now → said ≡ false → LeadsTo (folders_work rest place all) old (rest (Some path)) now
unfolding folders_work
lacked_folder rest place folder path later all old now said is_all is_path says is_said =
    subst (λ (fs : List (List ℕ)). LeadsTo (folders_work rest place fs) old (rest (Some path)) now) (sym is_all)
    (subst (λ (p : List ℕ). LeadsTo (folders_work rest place (folder ∷ later)) old (rest (Some p)) now) (sym is_path)
    (called (Folder (place ++ folder)) (λ is_had. cond is_had (folders_work rest (with_slash (place ++ folder)) later) (rest (Some (place ++ folder)))) old now false
    (subst (λ (s : Bool). CallReturns (Folder (place ++ folder)) old s now) is_said (subst (λ (p : List ℕ). CallReturns (Folder p) old said now) is_path says))))

-- all folders are there
pub had_all : (rest : Option (List ℕ) → Work) (place : List ℕ) (all : List (List ℕ)) (host : HostState) → all ≡ [] → LeadsTo (folders_work rest place all) host (rest None) host
unfolding folders_work
had_all rest place all host is = subst (λ (fs : List (List ℕ)). LeadsTo (folders_work rest place fs) host (rest None) host) (sym is) (nothing_yet (rest None) host)
