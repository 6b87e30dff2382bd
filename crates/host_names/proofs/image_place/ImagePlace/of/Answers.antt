use Rattle.std.proofs.Common.{◌≡◌, ◌++◌, List, ℕ, length, map, sym, ap, ◌∙◌, lit<, append-nil}
use denote.Bor.{Bor}
use Rattle.std.specs.List.{position_or_len}
use Rattle.std.proofs.lemmas.List.{map_push}
use Rattle.host_names.specs.ImagePlace.{folders_of}
use Rattle.host_names.proofs.Parts.{is_slash, IsCut, text_after, folder_more, no_folder_more, folders-one, last-parted, last-one}
use Rattle.host_names.proofs.image_place.ImagePlace.of.Goals as goal

pub loop-part-preserved-in_ok-push : goal.loop-part-preserved-in_ok-push
loop-part-preserved-in_ok-push c =
    let left = c.loop-part.left.now in
    let cut : IsCut left c.in-Some.part.now c.in-Some.rest.now = c.in-Some.ensures.byte (lit< tt) (λ w o f. f) in
    let found = map (λ (folder : Bor (List ℕ)). folder.now) c.loop-part.folders.items in
    record {
      text = text_after left c.in-Some.part.now c.in-Some.rest.now cut c.loop-part.invariant.text;
      folders = ap (λ (items : List (Bor (List ℕ))). map (λ (folder : Bor (List ℕ)). folder.now) items ++ folders_of c.in-Some.rest.now) c.in_ok-push.ensures.items
          ∙ ap (λ (fs : List (List ℕ)). fs ++ folders_of c.in-Some.rest.now) (map_push (λ (folder : Bor (List ℕ)). folder.now) c.loop-part.folders.items c.in-Some.part)
          ∙ folder_more found left c.in-Some.part.now c.in-Some.rest.now c.args.path.now cut (sym c.if-is_folder.ensures) c.loop-part.invariant.folders;
      last = sym (last-parted left c.in-Some.part.now c.in-Some.rest.now cut.0 cut.1 cut.2) ∙ c.loop-part.invariant.last;
    }

pub loop-part-preserved : goal.loop-part-preserved
loop-part-preserved c =
    let left = c.loop-part.left.now in
    let cut : IsCut left c.in-Some.part.now c.in-Some.rest.now = c.in-Some.ensures.byte (lit< tt) (λ w o f. f) in
    let found = map (λ (folder : Bor (List ℕ)). folder.now) c.loop-part.folders.items in
    record {
      text = text_after left c.in-Some.part.now c.in-Some.rest.now cut c.loop-part.invariant.text;
      folders = no_folder_more found left c.in-Some.part.now c.in-Some.rest.now c.args.path.now cut (sym c.if-is_folder.ensures) c.loop-part.invariant.folders;
      last = sym (last-parted left c.in-Some.part.now c.in-Some.rest.now cut.0 cut.1 cut.2) ∙ c.loop-part.invariant.last;
    }

pub returns-clause-folders : goal.returns-clause-folders
returns-clause-folders c =
    let left = c.loop-part.left.now in
    let none : position_or_len is_slash left ≡ length left = c.in_default.ensures.byte (lit< tt) (λ w o f. f) in
    let found = map (λ (folder : Bor (List ℕ)). folder.now) c.loop-part.folders.items in
    sym (append-nil found) ∙ ap (λ (fs : List (List ℕ)). found ++ fs) (sym (folders-one left none)) ∙ c.loop-part.invariant.folders

pub returns-clause-last : goal.returns-clause-last
returns-clause-last c =
    let left = c.loop-part.left.now in
    let none : position_or_len is_slash left ≡ length left = c.in_default.ensures.byte (lit< tt) (λ w o f. f) in
    sym (last-one left none) ∙ c.loop-part.invariant.last
