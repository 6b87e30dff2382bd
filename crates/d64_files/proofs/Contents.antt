-- What keeps a file from being read.
use Rattle.std.proofs.Common.{◌≡◌, ◌≢◌, ℕ, zero, suc, ◌+◌, Bool, true, false, cond, not, eqb, List, [], ◌∷◌, Option, Some, None, refl, sym, ap, ◌∙◌, subst, arith}
use Rattle.std.specs.Prelude.{All, find, slice_get, option_map}
use Rattle.std.specs.Option.{option_or, option_map_or}
use Rattle.std.proofs.lemmas.Bool.{eq-eqb, ne_eqb}
use Rattle.std.proofs.lemmas.List.Elements.{All-head, All-tail}
use Rattle.d64_files.specs.Slot.{EntryView, is_used, is_closed, kind_of, first_pair}
use Rattle.d64_files.specs.Ownership.{chain_at, owned_by}
use Rattle.d64_files.specs.Directory.{slots, slot_owns, entry_of, entries, AllHold, IsFirstFault}
use Rattle.d64_files.specs.FirstFault.{is_nil, first_fault, reading_conditions}
use Rattle.d64_files.specs.Reading.{is_del, file_refusal, file_content, content_at, slot_refusal, content_refusal}
use Rattle.d64_files.specs.declared.dir_fault.DirFault.{DirFault}
use Rattle.d64_files.specs.declared.dir_fault.DirFault.TheVariants.{NoChain}
use Rattle.d64_files.specs.declared.reading.ReadFault.{ReadFault}
use Rattle.d64_files.specs.declared.reading.ReadFault.TheVariants.{Directory, NotFound, NotClosed, WrongType}
use Rattle.d64_files.proofs.FirstFaults.{not_nil, reading_decides}
use Rattle.d64_files.proofs.Owners.{entries_from}

-- the entry of a number, among those that are numbered from another one on
entry_from : (image : List (List ℕ)) (k i : ℕ) (cells : List (List ℕ))
    → find (λ (e : EntryView). eqb e.slot (k + i)) (entries_from image k cells) ≡ option_map (λ (c : List ℕ). entry_of image (k + i, c)) (slice_get cells i)
entry_from image k i [] = refl
entry_from image k zero (c ∷ cells) =
    let e : k + 0 ≡ k = omega arith in
    let rest : List EntryView = entries_from image (k + 1) cells in
    let P : ℕ → Type 0 = λ n. cond (eqb k n) (Some (entry_of image (k, c))) (find (λ (e : EntryView). eqb e.slot n) rest) ≡ Some (entry_of image (n, c)) in
    subst P (sym e)
    (ap (λ (b : Bool). cond b (Some (entry_of image (k, c))) (find (λ (e : EntryView). eqb e.slot k) rest)) (eq-eqb k k refl))
entry_from image k (suc i) (c ∷ cells) =
    let e : k + suc i ≡ k + 1 + i = omega arith in
    let rest : List EntryView = entries_from image (k + 1) cells in
    ap (λ (b : Bool). cond b (Some (entry_of image (k, c))) (find (λ (e : EntryView). eqb e.slot (k + suc i)) rest)) (ne_eqb k (k + suc i) (λ e. omega arith))
    ∙ ap (λ (n : ℕ). find (λ (e : EntryView). eqb e.slot n) rest) e
    ∙ entry_from image (k + 1) i cells
    ∙ ap (λ (n : ℕ). option_map (λ (c : List ℕ). entry_of image (n, c)) (slice_get cells i)) (sym e)

-- the entry of a number
entry_of_number : (image cells : List (List ℕ)) (slot : ℕ)
    → find (λ (e : EntryView). eqb e.slot slot) (entries image cells) ≡ option_map (λ (c : List ℕ). entry_of image (slot, c)) (slice_get cells slot)
entry_of_number image cells slot =
    let e : slot ≡ 0 + slot = omega arith in
    ap (λ (n : ℕ). find (λ (e : EntryView). eqb e.slot n) (entries image cells)) e
    ∙ entry_from image 0 slot cells
    ∙ ap (λ (n : ℕ). option_map (λ (c : List ℕ). entry_of image (n, c)) (slice_get cells slot)) (sym e)

-- an entry that was found by its number has these bytes
bytes_of_found : (image : List (List ℕ)) (slot : ℕ) (bytes : Option (List ℕ)) (entry : EntryView)
    → Some entry ≡ option_map (λ (c : List ℕ). entry_of image (slot, c)) bytes → bytes ≡ Some entry.bytes
bytes_of_found image slot None entry e = cc
bytes_of_found image slot (Some c) entry e = let f : entry ≡ entry_of image (slot, c) = cc in ap (λ (x : EntryView). Some x.bytes) (sym f)

-- and if no slot was found there is no such slot
none_of_found : (image : List (List ℕ)) (slot : ℕ) (bytes : Option (List ℕ))
    → ◌≡◌ {A = Option EntryView} None (option_map (λ (c : List ℕ). entry_of image (slot, c)) bytes) → bytes ≡ None
none_of_found image slot None e = refl
none_of_found image slot (Some c) e = cc

-- the bytes of an entry that was found along a walk
pub found_bytes : (image : List (List ℕ)) (slot : ℕ) (walk : List EntryView) (entry : EntryView) → walk ≡ entries image (slots image)
    → Some entry ≡ find (λ (e : EntryView). eqb e.slot slot) walk → slice_get (slots image) slot ≡ Some entry.bytes
found_bytes image slot walk entry e found =
    bytes_of_found image slot (slice_get (slots image) slot) entry
    (found ∙ ap (find (λ (e : EntryView). eqb e.slot slot)) e ∙ entry_of_number image (slots image) slot)

-- None if no slot was found
pub no_bytes : (image : List (List ℕ)) (slot : ℕ) (walk : List EntryView) → walk ≡ entries image (slots image)
    → None ≡ find (λ (e : EntryView). eqb e.slot slot) walk → slice_get (slots image) slot ≡ None
no_bytes image slot walk e found =
    none_of_found image slot (slice_get (slots image) slot)
    (found ∙ ap (find (λ (e : EntryView). eqb e.slot slot)) e ∙ entry_of_number image (slots image) slot)

-- a directory that meets the conditions 2 and 3 can be read
pub readable : (image : List (List ℕ)) → AllHold image 2 3 → first_fault image reading_conditions ≡ None
readable image h = (reading_decides image).0.1 h

-- one that fails one of them can't, for the first that it fails
pub first_reason : (image : List (List ℕ)) (fault : DirFault) → IsFirstFault image 2 3 fault → first_fault image reading_conditions ≡ Some fault
first_reason image fault f = ((reading_decides image).1 fault).1 f

-- such a directory refuses each slot
pub refused_directory : (image : List (List ℕ)) (slot : ℕ) (fault : DirFault) → IsFirstFault image 2 3 fault → Some (Directory fault) ≡ content_refusal image slot
unfolding content_refusal
refused_directory image slot fault f =
    sym (ap (λ (o : Option DirFault). option_or (option_map Directory o) (slot_refusal image (slice_get (slots image) slot))) (first_reason image fault f))

-- the other one leaves it to the slot
pub refused_slot : (image : List (List ℕ)) (slot : ℕ) (bytes : Option (List ℕ)) → AllHold image 2 3 → slice_get (slots image) slot ≡ bytes
    → content_refusal image slot ≡ slot_refusal image bytes
unfolding content_refusal
refused_slot image slot bytes h e =
    ap (λ (o : Option DirFault). option_or (option_map Directory o) (slot_refusal image (slice_get (slots image) slot))) (readable image h)
    ∙ ap (slot_refusal image) e

-- why a file can't be read, by the four tests
abbrev reason : Bool → Bool → Bool → Bool → Option ReadFault
reason used closed del gone =
    cond (not used) (Some NotFound) (cond (not closed) (Some NotClosed) (cond del (Some WrongType) (cond gone (Some (Directory NoChain)) None)))

-- the result of the first test alone
by_used : (image : List (List ℕ)) (cell : List ℕ) (used : Bool) → is_used cell ≡ used
    → file_refusal image cell ≡ reason used (is_closed cell) (is_del (kind_of cell)) (is_nil (chain_at image (first_pair cell)))
unfolding file_refusal
by_used image cell used e = ap (λ (b : Bool). reason b (is_closed cell) (is_del (kind_of cell)) (is_nil (chain_at image (first_pair cell)))) e

-- the results of the first two
by_closed : (image : List (List ℕ)) (cell : List ℕ) (closed : Bool) → is_used cell ≡ true → is_closed cell ≡ closed
    → file_refusal image cell ≡ reason true closed (is_del (kind_of cell)) (is_nil (chain_at image (first_pair cell)))
by_closed image cell closed used e =
    by_used image cell true used ∙ ap (λ (b : Bool). reason true b (is_del (kind_of cell)) (is_nil (chain_at image (first_pair cell)))) e

-- the results of the first three
by_kind : (image : List (List ℕ)) (cell : List ℕ) (del : Bool) → is_used cell ≡ true → is_closed cell ≡ true → is_del (kind_of cell) ≡ del
    → file_refusal image cell ≡ reason true true del (is_nil (chain_at image (first_pair cell)))
by_kind image cell del used closed e =
    by_closed image cell true used closed ∙ ap (λ (b : Bool). reason true true b (is_nil (chain_at image (first_pair cell)))) e

-- an unused slot
pub unused : (image : List (List ℕ)) (cell : List ℕ) → is_used cell ≡ false → Some NotFound ≡ file_refusal image cell
unused image cell e = sym (by_used image cell false e)

-- an unclosed file
pub unclosed : (image : List (List ℕ)) (cell : List ℕ) → is_used cell ≡ true → is_closed cell ≡ false → Some NotClosed ≡ file_refusal image cell
unclosed image cell used e = sym (by_closed image cell false used e)

-- a DEL entry
pub deleted : (image : List (List ℕ)) (cell : List ℕ) → is_used cell ≡ true → is_closed cell ≡ true → is_del (kind_of cell) ≡ true → Some WrongType ≡ file_refusal image cell
deleted image cell used closed e = sym (by_kind image cell true used closed e)

-- a file without a chain
pub chainless : (image : List (List ℕ)) (cell : List ℕ) → is_used cell ≡ true → is_closed cell ≡ true → is_del (kind_of cell) ≡ false
    → chain_at image (first_pair cell) ≡ [] → Some (Directory NoChain) ≡ file_refusal image cell
chainless image cell used closed kind e =
    sym (by_kind image cell false used closed kind ∙ ap (λ (bs : List ℕ). reason true true false (is_nil bs)) e)

-- a file that can be read
pub has_chain : (image : List (List ℕ)) (cell : List ℕ) → is_used cell ≡ true → is_closed cell ≡ true → is_del (kind_of cell) ≡ false
    → chain_at image (first_pair cell) ≢ [] → None ≡ file_refusal image cell
has_chain image cell used closed kind there =
    sym (by_kind image cell false used closed kind ∙ ap (reason true true false) (not_nil (chain_at image (first_pair cell)) there))

-- the content of a slot with these bytes
pub content_of_bytes : (image : List (List ℕ)) (slot : ℕ) (cell : List ℕ) → slice_get (slots image) slot ≡ Some cell → content_at image slot ≡ file_content image cell
content_of_bytes image slot cell e = ap (λ (o : Option (List ℕ)). option_map_or (file_content image) o []) e

-- what holds of all slots holds of one
pub slot_has : (P : List ℕ → Type 0) (cells : List (List ℕ)) (slot : ℕ) (cell : List ℕ) → All P cells → slice_get cells slot ≡ Some cell → P cell
slot_has P [] slot cell all e = cc
slot_has P (c ∷ cells) zero cell all e = let same : c ≡ cell = cc in subst P same (All-head P c cells all)
slot_has P (c ∷ cells) (suc slot) cell all e = slot_has P cells slot cell (All-tail P c cells all) e

-- what a slot with these bytes owns
pub owns_by_bytes : (image : List (List ℕ)) (slot : ℕ) (bytes : Option (List ℕ)) → slice_get (slots image) slot ≡ bytes → slot_owns image slot ≡ option_map_or (owned_by image) bytes []
owns_by_bytes image slot bytes e = ap (λ (o : Option (List ℕ)). option_map_or (owned_by image) o []) e
