-- who owns which blocks after writing a file, and what the slots show
use Rattle.std.proofs.Common.{◌≡◌, ◌≢◌, ℕ, ◌+◌, ◌<◌, ◌≤◌, Bool, false, not, cond, eqb, eq-eqb, nat_eq, List, [], ◌∷◌, ◌++◌, length, map, get_or, Option, Some, None, refl, sym, ap, ◌∙◌, subst, inl, inr, arith}
use Rattle.std.specs.Prelude.{All, IfSome, replicate, slice_get}
use Rattle.std.specs.List.{list_any, flat_map, IsDistinct}
use Rattle.std.specs.Option.{option_and_then, option_map_or}
use Rattle.std.specs.Ordering.{nat_cmp}
use Rattle.std.specs.FinSet as set
use Rattle.std.proofs.lemmas.Bool.{cases_lt, lt-ltb, and_left, and_right, not-true}
use Rattle.std.proofs.lemmas.List.{append-nil, get_or-map, length-map}
use Rattle.std.proofs.lemmas.List.Elements.{All-nil, All-cons, All-weaker}
use Rattle.std.proofs.lemmas.List.Quantifiers.{position-Some}
use Rattle.d64_image.specs.declared.block.TheConstants.{BLOCKS}
use Rattle.d64_image.specs.Block.{pair_at}
use Rattle.d64_image.proofs.Pairs.{block_of-pair_at}
use Rattle.d64_map.specs.Map.{map_block, free_blocks}
use Rattle.d64_files.specs.Chain.{chain, held_block, block_in}
use Rattle.d64_files.specs.Directory.{directory, slots, owned_blocks}
use Rattle.d64_files.specs.FileData.{data_along}
use Rattle.d64_files.specs.Ownership.{roots, chain_at, owned_by, HasItsChains, NoneIsFree}
use Rattle.d64_files.specs.Slot.{HasKind, is_used}
use Rattle.d64_files.specs.Writing.{first_unused}
use Rattle.d64_files.specs.declared.dir_fault.DirFault.TheVariants.{WrongCounts, NoDirectory, UnknownKind, NoChain, CrossLinked, MarkedFree}
use Rattle.d64_files.specs.declared.kind.Kind.{Kind}
use Rattle.d64_files.specs.declared.kind.Kind.TheVariants.{Del}
use Rattle.d64_files.proofs.Chains.{chain-is, not_empty, starts_within}
use Rattle.d64_effects.specs.View.{chain_of_root, slot_view, IsSound}
use Rattle.d64_effects.specs.ViewAfter.{new_file}
use Rattle.d64_effects.proofs.CellFields.{IsNewEntry, is_used-new, is_closed-new, is_locked-new, kind_of-new, HasKind-new, field_of-new, size_of-new, roots-new, HasKind-beyond_link, HasKind-unused, owned_by-unused, HasItsChains-unused, is_used-zeros}
use Rattle.d64_effects.proofs.Frames.{shown, Agree, Framed, framed, owned_by-same, slot_view-same, HasItsChains-same, slot_view-beyond_link, owned_by-beyond_link, HasItsChains-beyond_link, slot_view-unused}
use Rattle.d64_effects.proofs.NewDirectory.{has_directory}
use Rattle.d64_effects.proofs.Occurrences.{tally, occurs, occurs-append, occurs-distinct, distinct-from_occurs, All-from_occurs, present-from_occurs, joined}
use Rattle.d64_effects.proofs.Rows.{with_row, bare, map-same, map-slots, All-slots, occurs-with_row, joined-map}
use Rattle.d64_effects.proofs.TakenBlocks.{Takes, Grows, occurs-owned, owned_once, owned_not_free, owned_not_taken, owned_not_grown, grown_not_taken, contains-blocks_without}
use Rattle.d64_effects.proofs.WrittenImages.{LeftByWriting, file_entry, append_some}

-- the slot of a new file, and one that is empty
abbrev pub new_slot : List ℕ → Kind → List ℕ → List ℕ
new_slot name kind taken = bare (file_entry name kind taken)

abbrev pub empty_slot : List ℕ
empty_slot = bare (replicate 30 0)

empty_is_unused : is_used empty_slot ≡ false
empty_is_unused = is_used-zeros empty_slot refl

-- an empty slot owns nothing, lacks nothing and shows nothing
empty_owns : (image : List (List ℕ)) → owned_by image empty_slot ≡ []
empty_owns image = owned_by-unused image empty_slot empty_is_unused

empty_shows : (image : List (List ℕ)) → slot_view image empty_slot ≡ None
empty_shows image = slot_view-unused image empty_slot empty_is_unused

-- writing a file of one of the kinds that own their chain
module _ (image other : List (List ℕ)) (name : List ℕ) (kind : Kind) (bytes taken grown : List ℕ)
    (sound : IsSound image) (short : length name ≤ 16) (owner : kind ≢ Del)
    (file : Takes image taken (length bytes)) (dir : Grows image grown)
    (left : LeftByWriting image other (first_unused (slots image)) taken grown (file_entry name kind taken) bytes) where
  is_new : IsNewEntry (new_slot name kind taken) name kind (get_or taken 0 0) (length taken)
  is_new = record { short = short; bytes = refl }

  -- the files' blocks hold what they held
  files_agree : Agree image other (flat_map (owned_by image) (slots image))
  files_agree q there =
      let owned = occurs-owned image q in
      let once = owned_once image sound q in
      let parts = occurs-append q (directory image) grown in
      let not_file = owned_not_taken image taken (length bytes) sound file q (omega arith) in
      let not_grown = owned_not_grown image grown sound dir q (omega arith) in
      left.kept q (λ e. let f : tally (eqb q map_block) ≡ 1 = ap tally (eq-eqb q map_block e) in omega arith) not_file (omega arith)

  slots_framed : All (Framed image other) (slots image)
  slots_framed = framed image other (slots image) (sound NoChain (omega arith) (omega arith)) files_agree

  same_length : length other ≡ length image
  same_length = left.long

  owned_as_before : map (owned_by other) (slots image) ≡ map (owned_by image) (slots image)
  owned_as_before =
      map-same (owned_by other) (owned_by image) (slots image)
      (All-weaker (Framed image other) (λ cell. owned_by other cell ≡ owned_by image cell)
      (λ cell f. owned_by-same image other cell f.0 same_length f.1) (slots image) slots_framed)

  pub shown_as_before : map (slot_view other) (slots image) ≡ map (slot_view image) (slots image)
  shown_as_before =
      map-same (slot_view other) (slot_view image) (slots image)
      (All-weaker (Framed image other) (λ cell. slot_view other cell ≡ slot_view image cell)
      (λ cell f. slot_view-same image other cell f.0 same_length f.1) (slots image) slots_framed)

  -- the chain of the new file
  new_chain : chain_at other (pair_at (get_or taken 0 0)) ≡ taken
  unfolding block_in
  new_chain =
      let first : ℕ = get_or taken 0 0 in
      let inside = starts_within other first taken left.chain in
      let size = left.is_image.0 in
      let below : first < BLOCKS = omega arith in
      ap (λ (block : Option ℕ). option_map_or (chain other) (option_and_then (held_block other) block) []) (block_of-pair_at first below)
      ∙ ap (λ (b : Bool). option_map_or (chain other) (cond b (Some first) None) []) (lt-ltb first (length other) inside)
      ∙ chain-is other first taken left.chain

  new_roots : roots (new_slot name kind taken) ≡ pair_at (get_or taken 0 0) ∷ []
  new_roots = roots-new (new_slot name kind taken) name kind (get_or taken 0 0) (length taken) is_new owner

  new_owns : owned_by other (new_slot name kind taken) ≡ taken
  new_owns = ap (flat_map (chain_at other)) new_roots ∙ append-nil (chain_at other (pair_at (get_or taken 0 0))) ∙ new_chain

  new_has_chain : HasItsChains other (new_slot name kind taken)
  new_has_chain =
      let P : ℕ × ℕ → Type 0 = λ root. chain_at other root ≢ [] in
      subst (All P) (sym new_roots)
      (All-cons P (pair_at (get_or taken 0 0)) [] (λ e. not_empty other (get_or taken 0 0) taken left.chain (sym new_chain ∙ e)) (All-nil P))

  -- what each slot owns now
  owned_rows : map (owned_by other) (slots other) ≡ with_row (map (owned_by image) (slots image)) (first_unused (slots image)) taken []
  owned_rows =
      map-slots (owned_by other) (slots image) (slots other) (first_unused (slots image)) (file_entry name kind taken) (owned_by-beyond_link other) left.entries
      ∙ (λ i. with_row (owned_as_before i) (first_unused (slots image)) (new_owns i) (empty_owns other i))

  -- the slot that the file takes owned nothing
  vacant : (place : Option ℕ) → first_unused (slots image) ≡ place
      → IfSome place (λ slot. (slot < length (map (owned_by image) (slots image))) × (get_or (map (owned_by image) (slots image)) slot [] ≡ []))
  vacant None e = tt
  vacant (Some slot) e =
      let p = position-Some (λ cell. not (is_used cell)) (slots image) slot [] e in
      let long = length-map (slots image) (owned_by image) in
      let cell : List ℕ = get_or (slots image) slot [] in
      (omega arith, get_or-map (owned_by image) (slots image) slot [] [] p.0 ∙ owned_by-unused image cell (not-true (is_used cell) p.1))

  -- a block is owned as often as before, and once more if it was taken
  occurs-owned_after : (q : ℕ) → occurs q (owned_blocks other) ≡ occurs q (owned_blocks image) + occurs q grown + occurs q taken
  occurs-owned_after q =
      let before = occurs-owned image q in
      let after = occurs-owned other q in
      let listed = ap (occurs q) left.blocks ∙ occurs-append q (directory image) grown in
      let files : occurs q (flat_map (owned_by other) (slots other)) ≡ occurs q (flat_map (owned_by image) (slots image)) + occurs q taken =
      ap (occurs q) (sym (joined-map (owned_by other) (slots other)) ∙ ap joined owned_rows)
      ∙ occurs-with_row q (map (owned_by image) (slots image)) (first_unused (slots image)) taken (vacant (first_unused (slots image)) refl)
      ∙ ap (λ (xs : List ℕ). occurs q xs + occurs q taken) (joined-map (owned_by image) (slots image)) in
      omega arith

  -- no block comes twice
  pub distinct_after : IsDistinct nat_eq (owned_blocks other)
  distinct_after = distinct-from_occurs (owned_blocks other) (λ q.
      let after = occurs-owned_after q in
      let once = owned_once image sound q in
      let grown_once = dir.once q in
      let taken_once = occurs-distinct taken file.distinct q in
      elim (cases_lt 0 (occurs q (owned_blocks image))) [
        | inl old ↦
            let a = owned_not_taken image taken (length bytes) sound file q old in
            let b = owned_not_grown image grown sound dir q old in
            omega arith
        | inr new ↦ elim (cases_lt 0 (occurs q grown)) [
          | inl h ↦ let a = grown_not_taken image taken grown (length bytes) file dir q h in omega arith
          | inr h ↦ omega arith
        ]
      ])

  -- no block is marked free
  pub none_free_after : NoneIsFree other (owned_blocks other)
  none_free_after = All-from_occurs (λ block. set.contains (free_blocks other) block ≡ false) (owned_blocks other) (λ q there.
      let after = occurs-owned_after q in
      let parts = occurs-append q taken grown in
      ap (λ (free : set.FinSet nat_cmp). set.contains free q) left.free ∙ contains-blocks_without (free_blocks image) (taken ++ grown) q
      ∙ elim (cases_lt 0 (occurs q (taken ++ grown))) [
        | inl new ↦
            and_left (not (list_any (nat_eq q) (taken ++ grown))) (set.contains (free_blocks image) q) (ap not (present-from_occurs q (taken ++ grown) new))
        | inr old ↦ and_right (not (list_any (nat_eq q) (taken ++ grown))) (set.contains (free_blocks image) q) (owned_not_free image sound q (omega arith))
      ])

  -- all slots have kinds, and their chains
  pub kinds_after : All HasKind (slots other)
  kinds_after =
      All-slots HasKind (slots image) (slots other) (first_unused (slots image)) (file_entry name kind taken) HasKind-beyond_link left.entries
      (sound UnknownKind (omega arith) (omega arith)) (HasKind-new (new_slot name kind taken) name kind (get_or taken 0 0) (length taken) is_new)
      (HasKind-unused empty_slot empty_is_unused)

  pub chains_after : All (HasItsChains other) (slots other)
  chains_after =
      All-slots (HasItsChains other) (slots image) (slots other) (first_unused (slots image)) (file_entry name kind taken)
      (HasItsChains-beyond_link other) left.entries
      (All-weaker (Framed image other) (HasItsChains other) (λ cell f. HasItsChains-same image other cell f.0 same_length f.1) (slots image) slots_framed)
      new_has_chain (HasItsChains-unused other empty_slot empty_is_unused)

  -- so the image is sound
  pub sound_after : IsSound other
  sound_after WrongCounts from to = left.counts
  sound_after NoDirectory from to = λ e. append_some (directory image) grown (has_directory image sound) (sym left.blocks ∙ e)
  sound_after UnknownKind from to = kinds_after
  sound_after NoChain from to = chains_after
  sound_after CrossLinked from to = distinct_after
  sound_after MarkedFree from to = none_free_after

  -- the new file's slot shows it
  new_shows : slot_view other (new_slot name kind taken) ≡ Some (new_file name kind bytes taken)
  unfolding slot_view
  new_shows =
      let cell : List ℕ = new_slot name kind taken in
      let first : ℕ = get_or taken 0 0 in
      let blocks : chain_of_root other cell 0 ≡ taken = ap (λ from. option_map_or (chain_at other) (slice_get from 0) []) new_roots ∙ new_chain in
      let side : chain_of_root other cell 1 ≡ [] = ap (λ from. option_map_or (chain_at other) (slice_get from 1) []) new_roots in
      let content : data_along other (chain_of_root other cell 0) ≡ bytes = ap (data_along other) blocks ∙ left.content in
      λ i. shown (is_used-new cell name kind first (length taken) is_new i) (field_of-new cell name kind first (length taken) is_new i)
      (kind_of-new cell name kind first (length taken) is_new i) (is_closed-new cell name kind first (length taken) is_new i)
      (is_locked-new cell name kind first (length taken) is_new i) (size_of-new cell name kind first (length taken) is_new i)
      (blocks i) (side i) (content i)

  -- what all slots show now
  pub shown_rows : map (slot_view other) (slots other)
      ≡ with_row (map (slot_view image) (slots image)) (first_unused (slots image)) (Some (new_file name kind bytes taken)) None
  shown_rows =
      map-slots (slot_view other) (slots image) (slots other) (first_unused (slots image)) (file_entry name kind taken)
      (slot_view-beyond_link other) left.entries
      ∙ (λ i. with_row (shown_as_before i) (first_unused (slots image)) (new_shows i) (empty_shows other i))
