-- slots that become unused: what they own, lack and show afterwards, and which blocks they give
-- back
use Rattle.std.proofs.Common.{◌≡◌, ℕ, zero, suc, ◌+◌, ◌<◌, ◌≤◌, ◌&&◌, ◌||◌, ◌==◌, Bool, true, false, not, cond, nat_eq, List, [], ◌∷◌, ◌++◌, length, map, get_or, Option, Some, None, refl, sym, ap, ap₂, ◌∙◌, inl, inr, arith, append_assoc}
use Rattle.std.specs.Prelude.{All, filter, slice_get}
use Rattle.std.specs.List.{list_any, flat_map, enumerate_from}
use Rattle.std.specs.Option.{option_map_or, option_to_list}
use Rattle.std.specs.Ordering.{nat_cmp}
use Rattle.std.specs.Cmp.{nat_cmp_total, unsigned_tied}
use Rattle.std.specs.FinSet as set
use Rattle.std.specs.FinSet.{contains-insert}
use Rattle.std.proofs.lemmas.Bool.{cases_lt, cond_both}
use Rattle.std.proofs.lemmas.List.{append-nil, length-append}
use Rattle.std.proofs.lemmas.List.Elements.{All-map, All-head, All-tail}
use Rattle.d64_files.specs.Chain.{chain, block_in}
use Rattle.d64_files.specs.Ownership.{roots, roots_of, chain_at, owned_by}
use Rattle.d64_files.specs.Slot.{is_used, is_closed, kind_of, first_pair, side_pair}
use Rattle.d64_files.specs.declared.kind.Kind.{Kind}
use Rattle.d64_files.specs.declared.kind.Kind.TheVariants.{Del, Seq, Prg, Usr, Rel}
use Rattle.d64_files.proofs.Chains.{within, is_chain}
use Rattle.d64_effects.specs.Clear.{with_freed}
use Rattle.d64_effects.specs.View.{FileView, chain_of_root, slot_view, file_view}
use Rattle.d64_effects.specs.ViewAfter.{emptied_if, blocks_if}
use Rattle.d64_effects.proofs.CellFields.{owned_by-unused}
use Rattle.d64_effects.proofs.DirectoryEntries.{get_or-written_within}
use Rattle.d64_effects.proofs.Frames.{slot_view-is, slot_view-unused}
use Rattle.d64_effects.proofs.Occurrences.{occurs, occurs-append, present-from_occurs}
use Rattle.d64_effects.proofs.SlotChanges.{cleared, cleared_if, numbers_from}

-- a slot that was cleared is unused
pub is_used-cleared : (cell : List ℕ) → length cell ≡ 32 → is_used (cleared cell) ≡ false
is_used-cleared cell long = ap (λ (byte : ℕ). not (byte == 0)) (get_or-written_within cell (0 ∷ []) 2 0 (omega arith) (omega arith))

-- what holds of each slot, and of a cleared one too
pub All-cleared : (P : List ℕ → Type 0) (test : List ℕ → Bool) (cells : List (List ℕ)) → ((cell : List ℕ) → length cell ≡ 32 → P (cleared cell))
    → All (λ cell. length cell ≡ 32) cells → All P cells → All P (map (cleared_if test) cells)
All-cleared P test cells gone sized all =
    All-map P (cleared_if test) cells (λ k d h.
    cond_both (test (get_or cells k d)) (cleared (get_or cells k d)) (get_or cells k d) P (λ passes. gone (get_or cells k d) (sized k d h))
    (λ fails. all k d h))

-- the blocks of a slot are as many as those of what it becomes, and those that it gives back
count_one : (image : List (List ℕ)) (q : ℕ) (cell rest mapped : List ℕ) (kept : List (List ℕ)) → owned_by image (cleared cell) ≡ []
    → occurs q rest ≡ occurs q mapped + occurs q (flat_map (owned_by image) kept) → (passes : Bool)
    → occurs q (owned_by image cell ++ rest)
    ≡ occurs q (owned_by image (cond passes (cleared cell) cell) ++ mapped) + occurs q (flat_map (owned_by image) (cond passes (cell ∷ kept) kept))
count_one image q cell rest mapped kept gone later true =
    let a = occurs-append q (owned_by image cell) rest in
    let b = occurs-append q (owned_by image (cleared cell)) mapped in
    let c : occurs q (owned_by image (cleared cell)) ≡ 0 = ap (occurs q) gone in
    let d = occurs-append q (owned_by image cell) (flat_map (owned_by image) kept) in
    omega arith
count_one image q cell rest mapped kept gone later false =
    let a = occurs-append q (owned_by image cell) rest in
    let b = occurs-append q (owned_by image cell) mapped in
    omega arith

-- so are those of all slots
pub occurs-cleared : (image : List (List ℕ)) (test : List ℕ → Bool) (q : ℕ) (cells : List (List ℕ)) → All (λ cell. length cell ≡ 32) cells
    → occurs q (flat_map (owned_by image) cells)
    ≡ occurs q (flat_map (owned_by image) (map (cleared_if test) cells)) + occurs q (flat_map (owned_by image) (filter test cells))
occurs-cleared image test q [] sized = refl
occurs-cleared image test q (cell ∷ cells) sized =
    let P : List ℕ → Type 0 = λ c. length c ≡ 32 in
    count_one image q cell (flat_map (owned_by image) cells) (flat_map (owned_by image) (map (cleared_if test) cells)) (filter test cells)
    (owned_by-unused image (cleared cell) (is_used-cleared cell (All-head P cell cells sized)))
    (occurs-cleared image test q cells (All-tail P cell cells sized)) (test cell)

-- a slot has at most two roots
few_side : (first : ℕ × ℕ) (side : Option (ℕ × ℕ)) → length (first ∷ option_to_list side) ≤ 2
few_side first None = omega arith
few_side first (Some root) = omega arith

few_roots_of : (kind : Kind) (cell : List ℕ) → length (roots_of kind cell) ≤ 2
few_roots_of Del cell = omega arith
few_roots_of Seq cell = omega arith
few_roots_of Prg cell = omega arith
few_roots_of Usr cell = omega arith
few_roots_of Rel cell = few_side (first_pair cell) (side_pair cell)

few_roots : (closed : Bool) (kind : Kind) (cell : List ℕ) → length (cond closed (roots_of kind cell) []) ≤ 2
few_roots true kind cell = few_roots_of kind cell
few_roots false kind cell = omega arith

-- so what it owns is its chain and its side chain
two_chains : (image : List (List ℕ)) (from : List (ℕ × ℕ)) → length from ≤ 2
    → option_map_or (chain_at image) (slice_get from 0) [] ++ option_map_or (chain_at image) (slice_get from 1) [] ≡ flat_map (chain_at image) from
two_chains image [] few = refl
two_chains image (first ∷ []) few = refl
two_chains image (first ∷ side ∷ []) few = ap (λ (blocks : List ℕ). chain_at image first ++ blocks) (sym (append-nil (chain_at image side)))
two_chains image (first ∷ side ∷ more ∷ rest) few = absurd (omega arith)

file_owns : (image : List (List ℕ)) (cell : List ℕ) → chain_of_root image cell 0 ++ chain_of_root image cell 1 ≡ owned_by image cell
file_owns image cell = two_chains image (roots cell) (few_roots (is_closed cell) (kind_of cell) cell)

-- the slots of files that pass a test
module _ (image : List (List ℕ)) (test : List ℕ → Bool) (goes : FileView → Bool)
    (agree : (cell : List ℕ) → test cell ≡ (is_used cell && goes (file_view image cell))) where
  -- what one shows once it is cleared
  shown_once : (cell : List ℕ) → length cell ≡ 32 → slot_view image (cleared_if test cell) ≡ emptied_if goes (slot_view image cell)
  shown_once cell long =
      by_test (test cell) ∙ ap (λ (b : Bool). cond b None (slot_view image cell)) (agree cell)
      ∙ ap (λ (old : Option FileView). cond (is_used cell && goes (file_view image cell)) None old) (slot_view-is image cell)
      ∙ by_use (is_used cell) (file_view image cell)
      ∙ sym (ap (emptied_if goes) (slot_view-is image cell))
    where
      by_test : (b : Bool) → slot_view image (cond b (cleared cell) cell) ≡ cond b None (slot_view image cell)
      by_test true = slot_view-unused image (cleared cell) (is_used-cleared cell long)
      by_test false = refl

      by_use : (used : Bool) (file : FileView) → cond (used && goes file) None (cond used (Some file) None) ≡ emptied_if goes (cond used (Some file) None)
      by_use true file = refl
      by_use false file = refl

  -- so all do
  pub shown-cleared : (cells : List (List ℕ)) → All (λ cell. length cell ≡ 32) cells
      → map (slot_view image) (map (cleared_if test) cells) ≡ map (emptied_if goes) (map (slot_view image) cells)
  shown-cleared [] sized = refl
  shown-cleared (cell ∷ cells) sized =
      let P : List ℕ → Type 0 = λ c. length c ≡ 32 in
      ap₂ (λ (row : Option FileView) (rows : List (Option FileView)). row ∷ rows) (shown_once cell (All-head P cell cells sized))
      (shown-cleared cells (All-tail P cell cells sized))

  -- the blocks that one gives back
  given_once : (cell : List ℕ) (later : List ℕ) (kept : List (List ℕ)) → later ≡ flat_map (owned_by image) kept
      → blocks_if goes (slot_view image cell) ++ later ≡ flat_map (owned_by image) (cond (test cell) (cell ∷ kept) kept)
  given_once cell later kept e =
      ap₂ (λ (blocks rest : List ℕ). blocks ++ rest) (ap (blocks_if goes) (slot_view-is image cell) ∙ by_use (is_used cell)) e
      ∙ by_test (is_used cell && goes (file_view image cell))
      ∙ ap (λ (b : Bool). flat_map (owned_by image) (cond b (cell ∷ kept) kept)) (sym (agree cell))
    where
      by_use : (used : Bool) → blocks_if goes (cond used (Some (file_view image cell)) None) ≡ cond (used && goes (file_view image cell)) (owned_by image cell) []
      by_use true = ap (λ (blocks : List ℕ). cond (goes (file_view image cell)) blocks []) (file_owns image cell)
      by_use false = refl

      by_test : (b : Bool) → cond b (owned_by image cell) [] ++ flat_map (owned_by image) kept ≡ flat_map (owned_by image) (cond b (cell ∷ kept) kept)
      by_test true = refl
      by_test false = refl

  pub blocks-given : (cells : List (List ℕ)) → flat_map (blocks_if goes) (map (slot_view image) cells) ≡ flat_map (owned_by image) (filter test cells)
  blocks-given [] = refl
  blocks-given (cell ∷ cells) = given_once cell (flat_map (blocks_if goes) (map (slot_view image) cells)) (filter test cells) (blocks-given cells)

-- the blocks of all files
module _ (image : List (List ℕ)) where
  owned_shown : (cell : List ℕ) → blocks_if (λ file. true) (slot_view image cell) ≡ owned_by image cell
  owned_shown cell = ap (blocks_if (λ file. true)) (slot_view-is image cell) ∙ by_use (is_used cell) refl
    where
      by_use : (used : Bool) → is_used cell ≡ used → blocks_if (λ file. true) (cond used (Some (file_view image cell)) None) ≡ owned_by image cell
      by_use true e = file_owns image cell
      by_use false e = sym (owned_by-unused image cell e)

  pub blocks-owned : (cells : List (List ℕ)) → flat_map (blocks_if (λ file. true)) (map (slot_view image) cells) ≡ flat_map (owned_by image) cells
  blocks-owned [] = refl
  blocks-owned (cell ∷ cells) = ap₂ (λ (blocks rest : List ℕ). blocks ++ rest) (owned_shown cell) (blocks-owned cells)

  -- they are blocks of the image
  chain_within : (start q : ℕ) (blocks : List ℕ) → chain image start ≡ blocks → 1 ≤ occurs q blocks → q < length image
  chain_within start q [] e there = absurd (omega arith)
  chain_within start q (block ∷ blocks) e there =
      within image start (block ∷ blocks) (is_chain image start (block ∷ blocks) e (λ none. cc)) q (present-from_occurs q (block ∷ blocks) there)

  from_block : (start : Option ℕ) (q : ℕ) → 1 ≤ occurs q (option_map_or (chain image) start []) → q < length image
  from_block None q there = absurd (omega arith)
  from_block (Some start) q there = chain_within start q (chain image start) refl there

  from_roots : (from : List (ℕ × ℕ)) (q : ℕ) → 1 ≤ occurs q (flat_map (chain_at image) from) → q < length image
  from_roots [] q there = absurd (omega arith)
  from_roots (root ∷ from) q there =
      let e = occurs-append q (chain_at image root) (flat_map (chain_at image) from) in
      elim (cases_lt 0 (occurs q (chain_at image root))) [
        | inl here ↦ from_block (block_in image root.0 root.1) q here
        | inr later ↦ from_roots from q (omega arith)
      ]

  pub owned_within : (cells : List (List ℕ)) (q : ℕ) → 1 ≤ occurs q (flat_map (owned_by image) cells) → q < length image
  owned_within [] q there = absurd (omega arith)
  owned_within (cell ∷ cells) q there =
      let e = occurs-append q (owned_by image cell) (flat_map (owned_by image) cells) in
      elim (cases_lt 0 (occurs q (owned_by image cell))) [
        | inl here ↦ from_roots (roots cell) q here
        | inr later ↦ owned_within cells q (omega arith)
      ]

-- the row at the place behind others
slice_get-behind : (done : List (List ℕ)) (row : List ℕ) (rows : List (List ℕ)) (n : ℕ) → length done ≡ n → slice_get (done ++ row ∷ rows) n ≡ Some row
slice_get-behind [] row rows zero e = refl
slice_get-behind [] row rows (suc n) e = absurd (omega arith)
slice_get-behind (first ∷ done) row rows zero e = absurd (omega arith)
slice_get-behind (first ∷ done) row rows (suc n) e = slice_get-behind done row rows n (omega arith)

-- what the slots of these numbers own
pub owned_at_numbers : (image : List (List ℕ)) (test : List ℕ → Bool) (cells all done : List (List ℕ)) (n : ℕ) → all ≡ done ++ cells → length done ≡ n
    → flat_map (λ (slot : ℕ). option_map_or (owned_by image) (slice_get all slot) []) (numbers_from test n cells)
    ≡ flat_map (owned_by image) (filter test cells)
owned_at_numbers image test [] all done n e count = refl
owned_at_numbers image test (cell ∷ cells) all done n e count =
    by_test (test cell)
    (owned_at_numbers image test cells all (done ++ cell ∷ []) (n + 1) (e ∙ sym (append_assoc done (cell ∷ []) cells))
    (length-append done (cell ∷ []) ∙ omega arith))
  where
    by_test : (b : Bool)
        → flat_map (λ (slot : ℕ). option_map_or (owned_by image) (slice_get all slot) []) (numbers_from test (n + 1) cells)
        ≡ flat_map (owned_by image) (filter test cells)
        → flat_map (λ (slot : ℕ). option_map_or (owned_by image) (slice_get all slot) [])
        (map (λ slot. slot.0) (cond b ((n, cell) ∷ filter (λ slot. test slot.1) (enumerate_from (n + 1) cells)) (filter (λ slot. test slot.1) (enumerate_from (n + 1) cells))))
        ≡ flat_map (owned_by image) (cond b (cell ∷ filter test cells) (filter test cells))
    by_test true later =
        ap₂ (λ (blocks rest : List ℕ). blocks ++ rest)
        (ap (λ (found : Option (List ℕ)). option_map_or (owned_by image) found [])
        (ap (λ (rows : List (List ℕ)). slice_get rows n) e ∙ slice_get-behind done cell cells n count))
        later
    by_test false later = later

-- the free blocks and those that are given back
pub contains-with_freed : (free : set.FinSet nat_cmp) (given : List ℕ) (q : ℕ)
    → set.contains (with_freed free given) q ≡ (list_any (nat_eq q) given || set.contains free q)
contains-with_freed free [] q = refl
contains-with_freed free (block ∷ given) q =
    contains-with_freed (set.insert free block) given q
    ∙ ap (λ (b : Bool). list_any (nat_eq q) given || b)
    (contains-insert nat_cmp_total free block q ∙ ap (λ (b : Bool). b || set.contains free q) (unsigned_tied q block))
    ∙ regrouped (nat_eq q block) (list_any (nat_eq q) given) (set.contains free q)
  where
    regrouped : (a b c : Bool) → (b || (a || c)) ≡ ((a || b) || c)
    regrouped true true c = refl
    regrouped true false c = refl
    regrouped false b c = refl
