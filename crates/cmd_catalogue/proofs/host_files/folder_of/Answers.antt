use Rattle.std.proofs.Common.{◌≡◌, ◌∙◌, ℕ, Bool, true, false, List, ◌++◌, Option, Some, None, Bor, option_map, sym, ap, ap₂}
use Rattle.std.specs.Prelude.{if◌then◌else◌}
use Rattle.std.specs.Str.{is_utf8}
use Rattle.std.proofs.lemmas.Bool.{false_from_ne_true}
use Rattle.std.proofs.lemmas.Str.{is_utf8-from_IsUtf8, IsUtf8-from_is_utf8}
use Rattle.host_names.specs.ImagePlace.{finished_name, folders_of, last_part}
use Rattle.host_names.specs.Paths.{done_path, path_inside, place_below}
use Rattle.cmd_catalogue.specs.Links.{folder_of}
use Rattle.cmd_catalogue.proofs.host_files.folder_of.Goals as goal

-- the folder of an image whose name is a text, or isn't
by_text : (links : Option (Bor (List ℕ))) (into : Bor (List ℕ)) (name : List ℕ) (text : Bool) → links ≡ Some into → is_utf8 name ≡ text
    → (if text then Some (done_path into.now name) else None) ≡ folder_of (option_map (λ links. links.now) links) name
by_text links into name text asked is =
    ap (λ (t : Bool). if t then Some (done_path into.now name) else None) (sym is)
    ∙ ap (λ (l : Option (Bor (List ℕ))). folder_of (option_map (λ (i : Bor (List ℕ)). i.now) l) name) (sym asked)

pub returns-in_default-from_utf8 : goal.returns-in_default-from_utf8
returns-in_default-from_utf8 c =
    let name = c.args.name.now in
    let no_text : is_utf8 name ≡ false = false_from_ne_true (is_utf8 name) (λ passes. c.in_default-from_utf8.ensures.cases.0 (IsUtf8-from_is_utf8 name passes)) in
    by_text c.args.links c.in-Some.into name false c.in-Some.is no_text

pub returns : goal.returns
returns c =
    let name = c.args.name.now in
    let same = c.in-Ok.ensures.cases.0 in
    let text : is_utf8 name ≡ true = is_utf8-from_IsUtf8 name c.in-Ok.ensures.cases.1 in
    let folders = c.in_ok-place.ensures.folders ∙ ap folders_of same in
    let last = c.in_ok-place.ensures.last ∙ ap last_part same in
    ap Some (c.in_ok-done_path.ensures ∙ ap₂ (λ (f : List (List ℕ)) (l : List ℕ). place_below (path_inside c.in-Some.into.now) f ++ finished_name l) folders last)
    ∙ by_text c.args.links c.in-Some.into name true c.in-Some.is text
