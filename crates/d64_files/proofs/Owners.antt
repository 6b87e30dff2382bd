-- What the entries of slots own, and the slots.
use Rattle.std.proofs.Common.{◌≡◌, ℕ, ◌+◌, List, [], ◌∷◌, ◌++◌, refl, sym, ap, ◌∙◌, append_assoc, append-nil}
use Rattle.std.specs.Prelude.{All, map}
use Rattle.std.specs.List.{flat_map, enumerate_from}
use Rattle.std.proofs.lemmas.List.Concat.{flat_map-append}
use Rattle.std.proofs.lemmas.List.Elements.{All-nil, All-cons, All-head, All-tail}
use Rattle.d64_files.specs.Slot.{EntryView}
use Rattle.d64_files.specs.Directory.{entry_of}

-- the entries of slots of an image, numbered from any number on
abbrev pub entries_from : List (List ℕ) → ℕ → List (List ℕ) → List EntryView
entries_from image n cells = map (entry_of image) (enumerate_from n cells)

-- what holds of each slot holds of each entry
pub entries_all : (P : List ℕ → Type 0) (image : List (List ℕ)) (n : ℕ) (cells : List (List ℕ)) → All P cells
    → All (λ (entry : EntryView). P entry.bytes) (entries_from image n cells)
entries_all P image n [] h = All-nil (λ (entry : EntryView). P entry.bytes)
entries_all P image n (c ∷ cells) h =
    All-cons (λ (entry : EntryView). P entry.bytes) (entry_of image (n, c)) (entries_from image (n + 1) cells) (All-head P c cells h)
    (entries_all P image (n + 1) cells (All-tail P c cells h))

-- and the other way round
pub all_entries : (P : List ℕ → Type 0) (image : List (List ℕ)) (n : ℕ) (cells : List (List ℕ))
    → All (λ (entry : EntryView). P entry.bytes) (entries_from image n cells) → All P cells
all_entries P image n [] h = All-nil P
all_entries P image n (c ∷ cells) h =
    All-cons P c cells (All-head (λ (entry : EntryView). P entry.bytes) (entry_of image (n, c)) (entries_from image (n + 1) cells) h)
    (all_entries P image (n + 1) cells (All-tail (λ (entry : EntryView). P entry.bytes) (entry_of image (n, c)) (entries_from image (n + 1) cells) h))

-- what the entries own is what the slots own
pub entries_owned : (f : List ℕ → List ℕ) (image : List (List ℕ)) (n : ℕ) (cells : List (List ℕ))
    → flat_map (λ (entry : EntryView). f entry.bytes) (entries_from image n cells) ≡ flat_map f cells
entries_owned f image n [] = refl
entries_owned f image n (c ∷ cells) = ap (λ (bs : List ℕ). f c ++ bs) (entries_owned f image (n + 1) cells)

-- what entries and one more own, or have otherwise
pub owned_more : {A : Type 0} (f : EntryView → List A) (before : List A) (done : List EntryView) (entry : EntryView)
    → (before ++ flat_map f done) ++ f entry ≡ before ++ flat_map f (done ++ entry ∷ [])
owned_more f before done entry =
    append_assoc before (flat_map f done) (f entry)
    ∙ ap (λ (bs : List _). before ++ bs) (ap (λ (bs : List _). flat_map f done ++ bs) (sym (append-nil (f entry))) ∙ sym (flat_map-append f done (entry ∷ [])))
