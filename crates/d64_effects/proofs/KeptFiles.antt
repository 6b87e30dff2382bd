-- files that a command doesn't name keep their places
use Rattle.std.proofs.Common.{◌≡◌, ◌≢◌, ℕ, ◌<◌, zero, suc, arith, Bool, true, false, not, cond, List, [], ◌∷◌, ◌++◌, length, map, get_or, set, Option, Some, None, refl, sym, ap, ◌∙◌}
use Rattle.std.specs.Prelude.{position, slice_get, replicate, bytes_eq}
use Rattle.std.proofs.lemmas.List.{get_or-map, length-map}
use Rattle.std.proofs.lemmas.List.Quantifiers.{position-Some}
use Rattle.std.proofs.lemmas.Slice.Eq.{bytes_eq-Decides}
use Rattle.d64_files.specs.Directory.{slots}
use Rattle.d64_files.specs.Name.{name_in}
use Rattle.d64_effects.specs.KeepingLaws.{WritingKeepsFiles, DeletingKeepsOtherFiles, RenamingKeepsOtherFiles, NamingKeepsFiles, ValidatingKeepsClosedFiles, UndeletingKeepsFiles}
use Rattle.d64_effects.specs.Undelete.{cell_at}
use Rattle.d64_effects.specs.View.{View, FileView, view, slot_view}
use Rattle.d64_effects.specs.ViewAfter.{written_view, new_file, is_vacant, slots_with, first_vacant, emptied_if, is_scratched_file, scratched_view, with_field, renamed_slots, renamed_view, named_view, validated_view, file_back, undeleted_view}
use Rattle.d64_effects.specs.Write.{taken_by}
use Rattle.d64_effects.proofs.Frames.{slot_view-unused}
use Rattle.d64_effects.proofs.NamedDisks.{named-shows}
use Rattle.d64_effects.proofs.RenamedDisks.{renamed-shows}
use Rattle.d64_effects.proofs.ScratchedDisks.{scratched-shows}
use Rattle.d64_effects.proofs.UndeletedDisks.{undeleted-shows}
use Rattle.d64_effects.proofs.ValidatedDisks.{validated-shows}
use Rattle.d64_effects.proofs.WrittenDisks.{written-shows}

-- slots have a file at that place
abbrev Has : List (Option FileView) → ℕ → FileView → Type 0
Has rows slot file = slice_get rows slot ≡ Some (Some file)

-- a file that doesn't go
kept-emptied : (goes : FileView → Bool) (rows : List (Option FileView)) (slot : ℕ) (file : FileView) → goes file ≡ false → Has rows slot file
    → Has (map (emptied_if goes) rows) slot file
kept-emptied goes [] slot file stays h = h
kept-emptied goes (row ∷ rows) zero file stays h =
    let e : row ≡ Some file = cc in
    ap Some (ap (emptied_if goes) e ∙ ap (λ (b : Bool). cond b None (Some file)) stays)
kept-emptied goes (row ∷ rows) (suc slot) file stays h = kept-emptied goes rows slot file stays h

-- a file of another name
kept-behind : (first : FileView) (rows others : List (Option FileView)) (new : List ℕ) (file : FileView) (slot : ℕ) (same : Bool)
    → (same ≡ true → first ≢ file) → ((k : ℕ) → Has rows k file → Has others k file) → Has (Some first ∷ rows) slot file
    → Has (cond same (Some (with_field first new) ∷ rows) (Some first ∷ others)) slot file
kept-behind first rows others new file zero true differ later h = absurd (differ refl (cc))
kept-behind first rows others new file zero false differ later h = h
kept-behind first rows others new file (suc slot) true differ later h = h
kept-behind first rows others new file (suc slot) false differ later h = later slot h

kept-renamed : (rows : List (Option FileView)) (old new : List ℕ) (file : FileView) → name_in file.field ≢ old → (slot : ℕ) → Has rows slot file
    → Has (renamed_slots rows old new) slot file
kept-renamed [] old new file other slot h = h
kept-renamed (None ∷ rows) old new file other zero h = h
kept-renamed (None ∷ rows) old new file other (suc slot) h = kept-renamed rows old new file other slot h
kept-renamed (Some first ∷ rows) old new file other slot h =
    kept-behind first rows (renamed_slots rows old new) new file slot (bytes_eq (name_in first.field) old)
    (λ same e. other (ap (λ (f : FileView). name_in f.field) (sym e) ∙ (bytes_eq-Decides (name_in first.field) old).0 same))
    (kept-renamed rows old new file other) h

-- a file beside a new one
kept-set : (rows : List (Option FileView)) (place slot : ℕ) (new file : FileView) → is_vacant (get_or rows place None) ≡ true → Has rows slot file
    → Has (set rows place (Some new)) slot file
kept-set [] place slot new file vacant h = h
kept-set (row ∷ rows) zero zero new file vacant h =
    let e : row ≡ Some file = cc in
    let f : true ≡ false = sym vacant ∙ ap is_vacant e in
    absurd (cc)
kept-set (row ∷ rows) zero (suc slot) new file vacant h = h
kept-set (row ∷ rows) (suc place) zero new file vacant h = h
kept-set (row ∷ rows) (suc place) (suc slot) new file vacant h = kept-set rows place slot new file vacant h

kept-append : (rows more : List (Option FileView)) (slot : ℕ) (file : FileView) → Has rows slot file → Has (rows ++ more) slot file
kept-append [] more slot file h = absurd (cc)
kept-append (row ∷ rows) more zero file h = h
kept-append (row ∷ rows) more (suc slot) file h = kept-append rows more slot file h

kept-with : (rows : List (Option FileView)) (place : Option ℕ) (slot : ℕ) (new file : FileView) → position is_vacant rows ≡ place → Has rows slot file
    → Has (slots_with rows place new) slot file
kept-with rows None slot new file e h = kept-append rows (Some new ∷ replicate 7 None) slot file h
kept-with rows (Some place) slot new file e h = kept-set rows place slot new file (position-Some is_vacant rows place None e).1 h

-- a file that isn't the new one
was-set : (rows : List (Option FileView)) (place slot : ℕ) (new file : FileView) → slot ≢ place → Has (set rows place (Some new)) slot file → Has rows slot file
was-set [] place slot new file other h = h
was-set (row ∷ rows) zero zero new file other h = absurd (other refl)
was-set (row ∷ rows) zero (suc slot) new file other h = h
was-set (row ∷ rows) (suc place) zero new file other h = h
was-set (row ∷ rows) (suc place) (suc slot) new file other h = was-set rows place slot new file (λ e. other (ap (λ (k : ℕ). suc k) e)) h

-- so on disks
pub writing-keeps : WritingKeepsFiles
unfolding written_view
writing-keeps image name kind bytes is named writable small sound fits slot file h =
    ap (λ (shown : View). slice_get shown.slots slot) (written-shows image name kind bytes is named writable small sound fits)
    ∙ kept-with (view image).slots (first_vacant (view image)) slot (new_file name kind bytes (taken_by (view image).free (length bytes))) file refl h

pub deleting-keeps : DeletingKeepsOtherFiles
unfolding scratched_view
deleting-keeps image patterns is sound slot file stays h =
    ap (λ (shown : View). slice_get shown.slots slot) (scratched-shows image patterns is sound)
    ∙ kept-emptied (is_scratched_file patterns) (view image).slots slot file stays h

pub renaming-keeps : RenamingKeepsOtherFiles
unfolding renamed_view
renaming-keeps image old new is named sound slot file other h =
    ap (λ (shown : View). slice_get shown.slots slot) (renamed-shows image old new is named sound)
    ∙ kept-renamed (view image).slots old new file other slot h

pub naming-keeps : NamingKeepsFiles
unfolding named_view
naming-keeps image name id is named two sound slot file h =
    ap (λ (shown : View). slice_get shown.slots slot) (named-shows image name id is named two sound) ∙ h

pub validating-keeps : ValidatingKeepsClosedFiles
unfolding validated_view
validating-keeps image is accepted slot file closed h =
    ap (λ (shown : View). slice_get shown.slots slot) (validated-shows image is accepted)
    ∙ kept-emptied (λ f. not f.closed) (view image).slots slot file (ap not closed) h

-- a file in the slot that it has
there-set : (rows : List (Option FileView)) (place : ℕ) (new : FileView) → place < length rows → Has (set rows place (Some new)) place new
there-set [] place new within = absurd (omega arith)
there-set (row ∷ rows) zero new within = refl
there-set (row ∷ rows) (suc place) new within = there-set rows place new (omega arith)

pub undeleting-keeps : UndeletingKeepsFiles
unfolding undeleted_view view
undeleting-keeps image back kind is sound writable can =
    let rows : List (Option FileView) = map (slot_view image) (slots image) in
    let shows = undeleted-shows image back kind is sound writable can in
    let within : back < length rows = let t = can.there in let l = length-map (slots image) (slot_view image) in omega arith in
    let vacant : is_vacant (get_or rows back None) ≡ true =
    ap is_vacant (get_or-map (slot_view image) (slots image) back [] None can.there ∙ slot_view-unused image (cell_at image back) can.unused) in (
      ap (λ (shown : View). slice_get shown.slots back) shows ∙ there-set rows back (file_back image back kind) within,
      λ slot file h. ap (λ (shown : View). slice_get shown.slots slot) shows ∙ kept-set rows back slot (file_back image back kind) file vacant h,
      λ slot file other h. was-set rows back slot (file_back image back kind) file other (sym (ap (λ (shown : View). slice_get shown.slots slot) shows) ∙ h),
    )
