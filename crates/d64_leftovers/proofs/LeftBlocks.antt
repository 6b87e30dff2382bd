-- The blocks that are left, and those to which they link.
use Rattle.std.proofs.Common.{◌≡◌, ℕ, ◌+◌, ◌<◌, ◌≤◌, ◌||◌, Bool, true, false, cond, eqb, List, [], ◌∷◌, ◌++◌, length, map, take, get_or, Option, Some, None, refl, sym, ap, ap₂, ◌∙◌, arith, length-append, append-nil}
use Rattle.std.specs.Prelude.{All, filter, find, option_map}
use Rattle.std.specs.List.{cons_option, filter_map, flat_map, list_any, enumerate_from, range_with_len}
use Rattle.std.specs.Ordering.{nat_cmp}
use Rattle.std.specs.Cmp.{nat_cmp_total, unsigned_tied}
use Rattle.std.specs.FinSet as set
use Rattle.std.specs.FinSet.{contains-insert, contains-empty}
use Rattle.std.proofs.lemmas.List.{take_more}
use Rattle.std.proofs.lemmas.List.Concat.{flat_map-cons}
use Rattle.std.proofs.lemmas.List.Elements.{filter_map-append}
use Rattle.std.proofs.lemmas.List.Folds.{list_any-append}
use Rattle.std.proofs.lemmas.List.FromFn.{length-range_with_len}
use Rattle.d64_files.specs.Chain.{link_at}
use Rattle.d64_files.specs.Slot.{EntryView}
use Rattle.d64_survey.specs.Way.{block_at}
use Rattle.d64_leftovers.specs.Orphans.{blocks_linked, is_named_by, old_slot_of}
use Rattle.d64_leftovers.specs.declared.orphan_row.OldSlot.{OldSlot}

-- no more are filtered than there were
short_by : {X : Type 0} (t : Bool) (x : X) (kept xs : List X) → length kept ≤ length xs → length (cond t (x ∷ kept) kept) ≤ 1 + length xs
short_by true x kept xs few = omega (arith, few)
short_by false x kept xs few = omega (arith, few)

pub filter-short : {X : Type 0} (p : X → Bool) (xs : List X) → length (filter p xs) ≤ length xs
filter-short p [] = omega arith
filter-short p (x ∷ xs) = let few : length (filter p (x ∷ xs)) ≤ 1 + length xs = short_by (p x) x (filter p xs) xs (filter-short p xs) in omega (arith, few)

-- the entry of a numbered slot
abbrev entry_at : List (List ℕ) → ℕ × List ℕ → EntryView
entry_at image s = record { slot = s.0; bytes = s.1; image = image }

-- what comes of the bytes of the entries of slots
pub along_entries : {X : Type 0} (f : List ℕ → List X) (image : List (List ℕ)) (n : ℕ) (cells : List (List ℕ))
    → flat_map (λ (entry : EntryView). f entry.bytes) (map (entry_at image) (enumerate_from n cells)) ≡ flat_map f cells
along_entries f image n [] = refl
along_entries {X = X} f image n (cell ∷ cells) =
    flat_map-cons (λ (entry : EntryView). f entry.bytes) (entry_at image (n, cell)) (map (entry_at image) (enumerate_from (n + 1) cells))
    ∙ ap (λ (l : List X). f cell ++ l) (along_entries f image (n + 1) cells)
    ∙ sym (flat_map-cons f cell cells)

-- what is found among the entries of slots
found_by : (t : Bool) (image : List (List ℕ)) (n : ℕ) (cell : List ℕ) (others : Option EntryView) (cells : Option (List ℕ))
    → option_map (λ (entry : EntryView). old_slot_of entry.bytes) others ≡ option_map old_slot_of cells
    → option_map (λ (entry : EntryView). old_slot_of entry.bytes) (cond t (Some (entry_at image (n, cell))) others) ≡ option_map old_slot_of (cond t (Some cell) cells)
found_by true image n cell others cells e = refl
found_by false image n cell others cells e = e

pub found_among : (image : List (List ℕ)) (head n : ℕ) (cells : List (List ℕ))
    → option_map (λ (entry : EntryView). old_slot_of entry.bytes) (find (λ (entry : EntryView). is_named_by entry.image head entry.bytes) (map (entry_at image) (enumerate_from n cells)))
    ≡ option_map old_slot_of (find (is_named_by image head) cells)
found_among image head n [] = refl
found_among image head n (cell ∷ cells) =
    found_by (is_named_by image head cell) image n cell
    (find (λ (entry : EntryView). is_named_by entry.image head entry.bytes) (map (entry_at image) (enumerate_from (n + 1) cells))) (find (is_named_by image head) cells)
    (found_among image head (n + 1) cells)

-- one more block is linked to
turned : (a b : Bool) → (a || b) ≡ (b || (a || false))
turned true true = refl
turned true false = refl
turned false true = refl
turned false false = refl

or_nothing : (a : Bool) → a ≡ (a || false)
or_nothing true = refl
or_nothing false = refl

pub link_some : (image : List (List ℕ)) (old new : set.FinSet nat_cmp) (block next : ℕ) → new ≡ set.insert old next → block_at image (link_at image block) ≡ Some next
    → (q : ℕ) → set.contains new q ≡ (set.contains old q || list_any (eqb q) (blocks_linked image (block ∷ [])))
link_some image old new block next e found q =
    ap (λ (s : set.FinSet nat_cmp). set.contains s q) e ∙ contains-insert nat_cmp_total old next q ∙ ap (λ (t : Bool). t || set.contains old q) (unsigned_tied q next)
    ∙ turned (eqb q next) (set.contains old q)
    ∙ sym (ap (λ (o : Option ℕ). set.contains old q || list_any (eqb q) (cons_option o [])) found)

pub link_none : (image : List (List ℕ)) (old : set.FinSet nat_cmp) (block : ℕ) → block_at image (link_at image block) ≡ None
    → (q : ℕ) → set.contains old q ≡ (set.contains old q || list_any (eqb q) (blocks_linked image (block ∷ [])))
link_none image old block found q = or_nothing (set.contains old q) ∙ sym (ap (λ (o : Option ℕ). set.contains old q || list_any (eqb q) (cons_option o [])) found)

pub link_more : (image : List (List ℕ)) (old new : set.FinSet nat_cmp) (blocks : List ℕ) (k block d : ℕ)
    → ((q : ℕ) → set.contains new q ≡ (set.contains old q || list_any (eqb q) (blocks_linked image (block ∷ []))))
    → ((q : ℕ) → set.contains old q ≡ list_any (eqb q) (blocks_linked image (take k blocks))) → k < length blocks → block ≡ get_or blocks k d
    → (q : ℕ) → set.contains new q ≡ list_any (eqb q) (blocks_linked image (take (k + 1) blocks))
link_more image old new blocks k block d added members within is q =
    let link : ℕ → Option ℕ = λ b. block_at image (link_at image b) in
    added q ∙ ap (λ (t : Bool). t || list_any (eqb q) (filter_map link (block ∷ []))) (members q)
    ∙ sym (list_any-append (eqb q) (filter_map link (take k blocks)) (filter_map link (block ∷ [])))
    ∙ ap (list_any (eqb q)) (sym (filter_map-append link (take k blocks) (block ∷ [])) ∙ ap (filter_map link) (ap (λ (b : ℕ). take k blocks ++ b ∷ []) is ∙ sym (take_more blocks k d within)))

-- the members of an empty set, and of blocks
pub none_yet : (members : set.FinSet nat_cmp) → members ≡ set.empty → (q : ℕ) → set.contains members q ≡ false
none_yet members empty q = ap (λ (s : set.FinSet nat_cmp). set.contains s q) empty ∙ contains-empty nat_cmp q

pub all_of : (none all : set.FinSet nat_cmp) (found blocks : List ℕ) → none ≡ set.empty → ((q : ℕ) → set.contains all q ≡ (set.contains none q || list_any (eqb q) found)) → found ≡ blocks
    → (q : ℕ) → set.contains all q ≡ list_any (eqb q) blocks
all_of none all found blocks empty added same q =
    added q ∙ ap (λ (t : Bool). t || list_any (eqb q) found) (none_yet none empty q) ∙ ap (list_any (eqb q)) same
