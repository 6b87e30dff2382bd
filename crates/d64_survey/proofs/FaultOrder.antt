-- The first of an image's faults is one of the first condition that fails.
use Rattle.std.proofs.Common.{◌≡◌, ◌≢◌, ℕ, ◌+◌, ◌<◌, ◌≤◌, ◌||◌, ◌&&◌, Bool, true, false, cond, not, eqb, ltb, List, [], ◌∷◌, ◌++◌, length, map, get_or, Option, Some, None, refl, sym, ap, ap₂, ◌∙◌, subst, inl, inr, arith, append-nil}
use Rattle.std.specs.Prelude.{filter, option_map}
use Rattle.std.specs.List.{flat_map, list_any, list_all, range_with_len, enumerate_from, slice_get}
use Rattle.std.specs.Option.{option_map_or}
use Rattle.std.specs.FinSet as set
use Rattle.std.proofs.lemmas.Bool.{cases_Bool, or_parts, or_from, or_cases, or_right, eqb-true, eq-eqb, lt-ltb, le-ltb}
use Rattle.std.proofs.lemmas.Bool.Decides.{nat_tests}
use Rattle.std.proofs.lemmas.List.Folds.{list_any_at, list_any-append}
use Rattle.std.proofs.lemmas.List.FromFn.{length-range_with_len, get_or-range_with_len}
use Rattle.d64_image.specs.Image.{IsSize, tracks_of}
use Rattle.d64_image.specs.declared.block.TheConstants.{BLOCKS}
use Rattle.d64_image.proofs.Sizes.{size_most}
use Rattle.d64_map.specs.Map.{map_block, blocks, count_of, free_blocks}
use Rattle.d64_map.specs.Track.{members_on}
use Rattle.d64_files.specs.Claims.{has_repeats}
use Rattle.d64_files.specs.Slot.{type_byte, has_kind}
use Rattle.d64_files.specs.Ownership.{chain_at, roots}
use Rattle.d64_files.specs.Directory.{directory, owned_blocks, condition_number}
use Rattle.d64_files.specs.FirstFault.{is_nil, fails, first_fault, sound_conditions}
use Rattle.d64_files.specs.declared.dir_fault.DirFault.{DirFault}
use Rattle.d64_files.specs.declared.dir_fault.DirFault.TheVariants as conditions
use Rattle.d64_files.proofs.FirstFaults.{met, sound_decides}
use Rattle.d64_survey.specs.Way.{way, is_whole}
use Rattle.d64_survey.specs.Owners.{pair_of, blocks_from, directory_way, way_slots, owners, blocks_owned, owners_of, is_owned, is_shared}
use Rattle.d64_survey.specs.SlotBlocks.{slot_blocks}
use Rattle.d64_survey.specs.Tallies.{times}
use Rattle.d64_survey.specs.Faults.{number, where_so, last_of, count_fault, count_faults, directory_faults, kind_fault, kind_faults, way_fault, part_fault, file_faults, shared_faults, free_faults, faults}
use Rattle.d64_survey.specs.FaultLaws.{NoFaultWhereSound, FirstFaultIsTheLeast}
use Rattle.d64_survey.specs.declared.fault.Fault.{Fault}
use Rattle.d64_survey.specs.declared.fault.Fault.TheVariants.{WrongCount, BrokenDirectory, UnknownKind, BrokenFile, Shared, MarkedFree}
use Rattle.d64_survey.specs.declared.owner.Owner.{Owner}
use Rattle.d64_survey.specs.declared.owner.Part.{Part}
use Rattle.d64_survey.specs.declared.owner.Part.TheVariants.{Data, Side}
use Rattle.d64_survey.specs.declared.way_end.WayEnd.{WayEnd}
use Rattle.d64_survey.specs.declared.way_end.WayEnd.TheVariants.{End, Off, Loop}
use Rattle.d64_survey.proofs.Traced.{bounded}
use Rattle.d64_survey.proofs.Owning.{few_roots, slots_are, owned_are, blocks_owned-are}

-- the number of the first fault
abbrev first_number : List Fault → Option ℕ
first_number list = option_map number (slice_get list 0)

-- faults are there exactly if a test says so, and the first has this number
record Records (failed : Bool) (n : ℕ) (list : List Fault) : Type 0 where
  none : failed ≡ false → list ≡ []
  first : failed ≡ true → first_number list ≡ Some n

-- the first of faults before others is their first
first_before : (list rest : List Fault) (n : ℕ) → first_number list ≡ Some n → first_number (list ++ rest) ≡ Some n
first_before [] rest n e = absurd (let f : None ≡ Some n = e in cc)
first_before (fault ∷ list) rest n e = e

-- what holds of two lists
both_record : (failed others_failed : Bool) (n : ℕ) (list others : List Fault) → Records failed n list → Records others_failed n others → Records (failed || others_failed) n (list ++ others)
both_record true others_failed n list others t u = record {
  none = λ (e : true ≡ false). absurd (cc);
  first = λ _. first_before list others n (t.first refl);
}
both_record false others_failed n list others t u =
    subst (λ (l : List Fault). Records others_failed n (l ++ others)) (sym (t.none refl)) u

-- what holds of each list holds of all together
all_record : {X : Type 0} (test : X → Bool) (n : ℕ) (list : X → List Fault) → ((x : X) → Records (test x) n (list x)) → (xs : List X) → Records (list_any test xs) n (flat_map list xs)
all_record test n list each [] = record { none = λ _. refl; first = λ (e : false ≡ true). absurd (cc) }
all_record test n list each (x ∷ xs) = both_record (test x) (list_any test xs) n (list x) (flat_map list xs) (each x) (all_record test n list each xs)

-- a fault if there is one
one_records : (there : Bool) (fault : Fault) → Records there (number fault) (where_so there fault)
one_records true fault = record { none = λ (e : true ≡ false). absurd (cc); first = λ _. refl }
one_records false fault = record { none = λ _. refl; first = λ (e : false ≡ true). absurd (cc) }

-- some fail if not all pass
not_all : {X : Type 0} (test : X → Bool) (xs : List X) → list_any (λ x. not (test x)) xs ≡ not (list_all test xs)
not_all test [] = refl
not_all test (x ∷ xs) = by_test (test x) (not_all test xs)
  where
    by_test : (t : Bool) → list_any (λ x. not (test x)) xs ≡ not (list_all test xs) → (not t || list_any (λ x. not (test x)) xs) ≡ not (t && list_all test xs)
    by_test true e = e
    by_test false e = refl

-- the numbers of slots don't matter to a test of their bytes
any_numbered : (test : List ℕ → Bool) (n : ℕ) (cells : List (List ℕ)) → list_any (λ (slot : ℕ × List ℕ). test slot.1) (enumerate_from n cells) ≡ list_any test cells
any_numbered test n [] = refl
any_numbered test n (cell ∷ cells) = ap (λ (t : Bool). test cell || t) (any_numbered test (n + 1) cells)

-- the counts
counts_record : (image : List (List ℕ)) → Records (fails image conditions.WrongCounts) 1 (count_faults image)
unfolding fails
counts_record image =
    let tracks = range_with_len 1 (tracks_of (length image)) in
    let fits : ℕ → Bool = λ track. eqb (count_of image track) (members_on (free_blocks image) track) in
    subst (λ (t : Bool). Records t 1 (count_faults image)) (not_all fits tracks) (all_record (λ track. not (fits track)) 1 (count_fault image) (λ track. one_records (not (fits track)) (WrongCount track (count_of image track) (members_on (free_blocks image) track))) tracks)

-- a way that ends as a chain is one
whole_is_end : (end : WayEnd) → is_whole end ≡ true → end ≡ End
whole_is_end End e = refl
whole_is_end (Off track sector) e = absurd (let f : false ≡ true = e in cc)
whole_is_end (Loop track sector) e = absurd (let f : false ≡ true = e in cc)

-- an empty list isn't another one
nil_is_not : (list : List ℕ) → is_nil list ≡ true → list ≡ []
nil_is_not [] e = refl
nil_is_not (x ∷ list) e = absurd (let f : false ≡ true = e in cc)

-- a way doesn't end as a chain if there is no chain
not_whole : (image : List (List ℕ)) (pair : ℕ × ℕ) → not (is_whole (way image pair).1) ≡ is_nil (chain_at image pair)
not_whole image pair =
    let b = bounded image pair in
    elim (cases_Bool (is_nil (chain_at image pair))) [
      | inl t ↦ elim (cases_Bool (is_whole (way image pair).1)) [
        | inl w ↦ let c = b.chain (whole_is_end _ w) in absurd (c.1 (nil_is_not (chain_at image pair) t))
        | inr w ↦ ap not w ∙ sym t
      ]
      | inr f ↦
          let some : chain_at image pair ≢ [] = λ e. let g : true ≡ false = sym (ap is_nil e) ∙ f in cc in
          ap (λ (end : WayEnd). not (is_whole end)) (b.end some) ∙ sym f
    ]

-- the fault of a way is there if the chain isn't
way_records : (image : List (List ℕ)) (pair : ℕ × ℕ) (fault : Fault) → Records (is_nil (chain_at image pair)) (number fault) (where_so (not (is_whole (way image pair).1)) fault)
way_records image pair fault =
    subst (λ (t : Bool). Records t (number fault) (where_so (not (is_whole (way image pair).1)) fault)) (not_whole image pair) (one_records _ fault)

directory_records : (image : List (List ℕ)) → Records (fails image conditions.NoDirectory) 2 (directory_faults image)
unfolding fails
directory_records image = way_records image (18, 1) (BrokenDirectory (last_of (directory_way image).0) (directory_way image).1)

-- the kinds
kinds_record : (image : List (List ℕ)) → directory image ≢ [] → Records (fails image conditions.UnknownKind) 3 (kind_faults image)
unfolding fails
kinds_record image some =
    let cells = way_slots image in
    subst (λ (t : Bool). Records t 3 (kind_faults image))
    (any_numbered (λ cell. not (has_kind cell)) 0 cells ∙ not_all has_kind cells ∙ ap (λ (cs : List (List ℕ)). not (list_all has_kind cs)) (sym (slots_are image some)))
    (all_record (λ (slot : ℕ × List ℕ). not (has_kind slot.1)) 3 kind_fault (λ slot. one_records (not (has_kind slot.1)) (UnknownKind slot.0 (type_byte slot.1))) (enumerate_from 0 cells))

-- the fault of a way of a slot's file
abbrev broken : List (List ℕ) → ℕ → Part → ℕ × ℕ → Fault
broken image slot part pair = BrokenFile slot part (last_of (way image pair).0) (way image pair).1

-- the ways of a slot
roots_record : (image : List (List ℕ)) (slot : ℕ) (pairs : List (ℕ × ℕ)) → length pairs ≤ 2
    → Records (list_any (λ pair. is_nil (chain_at image pair)) pairs) 4
    (option_map_or (way_fault image slot Data) (slice_get pairs 0) [] ++ option_map_or (way_fault image slot Side) (slice_get pairs 1) [])
roots_record image slot [] few = record { none = λ _. refl; first = λ (e : false ≡ true). absurd (cc) }
roots_record image slot (main ∷ []) few = both_record (is_nil (chain_at image main)) false 4 (way_fault image slot Data main) [] (way_records image main (broken image slot Data main)) (record { none = λ _. refl; first = λ (e : false ≡ true). absurd (cc) })
roots_record image slot (main ∷ side ∷ []) few =
    let second = is_nil (chain_at image side) in
    both_record (is_nil (chain_at image main)) (second || false) 4 (way_fault image slot Data main) (way_fault image slot Side side) (way_records image main (broken image slot Data main))
    (subst (λ (t : Bool). Records t 4 (way_fault image slot Side side)) (sym (or_false second)) (way_records image side (broken image slot Side side)))
  where
    or_false : (t : Bool) → (t || false) ≡ t
    or_false true = refl
    or_false false = refl
roots_record image slot (main ∷ side ∷ other ∷ pairs) few = absurd (omega arith)

files_record : (image : List (List ℕ)) → directory image ≢ [] → Records (fails image conditions.NoChain) 4 (file_faults image)
unfolding fails
files_record image some =
    let test : List ℕ → Bool = λ cell. list_any (λ (pair : ℕ × ℕ). is_nil (chain_at image pair)) (roots cell) in
    subst (λ (t : Bool). Records t 4 (file_faults image)) (any_numbered test 0 (way_slots image) ∙ ap (list_any test) (sym (slots_are image some)))
    (all_record (λ (slot : ℕ × List ℕ). test slot.1) 4 (λ (slot : ℕ × List ℕ). part_fault image slot Data ++ part_fault image slot Side) (λ slot. roots_record image slot.0 (roots slot.1) (few_roots slot.1)) (enumerate_from 0 (way_slots image)))

-- a block has as many owners as it comes among the blocks that have one
counted : (block : ℕ) (owned : List (ℕ × Owner)) → length (map (λ (o : ℕ × Owner). o.1) (filter (λ (o : ℕ × Owner). eqb block o.0) owned)) ≡ times (map (λ (o : ℕ × Owner). o.0) owned) block
counted block [] = refl
counted block (o ∷ owned) = by_test (eqb block o.0) (counted block owned)
  where
    by_test : (t : Bool) → length (map (λ (o : ℕ × Owner). o.1) (filter (λ (o : ℕ × Owner). eqb block o.0) owned)) ≡ times (map (λ (o : ℕ × Owner). o.0) owned) block
        → length (map (λ (o : ℕ × Owner). o.1) (cond t (o ∷ filter (λ (o : ℕ × Owner). eqb block o.0) owned) (filter (λ (o : ℕ × Owner). eqb block o.0) owned)))
        ≡ length (cond t (o.0 ∷ filter (eqb block) (map (λ (o : ℕ × Owner). o.0) owned)) (filter (eqb block) (map (λ (o : ℕ × Owner). o.0) owned)))
    by_test true e = omega arith
    by_test false e = e

pub owners-counted : (image : List (List ℕ)) (block : ℕ) → length (owners_of image block) ≡ times (blocks_owned image) block
owners-counted image block = counted block (owners image)

-- a block that isn't in a list is not counted in it, and one that is in it is counted at least once
absent : (bs : List ℕ) (block : ℕ) → list_any (eqb block) bs ≡ ltb 0 (times bs block)
absent [] block = refl
absent (b ∷ bs) block = by_test (eqb block b) (absent bs block)
  where
    by_test : (t : Bool) → list_any (eqb block) bs ≡ ltb 0 (times bs block) → (t || list_any (eqb block) bs) ≡ ltb 0 (length (cond t (b ∷ filter (eqb block) bs) (filter (eqb block) bs)))
    by_test true e = let some : 0 < length (b ∷ filter (eqb block) bs) = omega arith in sym (lt-ltb 0 (length (b ∷ filter (eqb block) bs)) some)
    by_test false e = e

-- if no block comes twice, each is counted at most once
no_twice : (bs : List ℕ) (block : ℕ) → has_repeats bs ≡ false → ltb 1 (times bs block) ≡ false
no_twice [] block e = refl
no_twice (b ∷ bs) block e =
    let parts = or_parts (list_any (eqb b) bs) (has_repeats bs) e in
    by_test (eqb block b) refl parts.0 (no_twice bs block parts.1)
  where
    by_test : (t : Bool) → eqb block b ≡ t → list_any (eqb b) bs ≡ false → ltb 1 (times bs block) ≡ false
        → ltb 1 (length (cond t (b ∷ filter (eqb block) bs) (filter (eqb block) bs))) ≡ false
    by_test true same fresh e =
        let zero_times : ltb 0 (times bs block) ≡ false = sym (absent bs block) ∙ ap (λ (k : ℕ). list_any (eqb k) bs) (eqb-true block b same) ∙ fresh in
        let none : times bs block ≡ 0 = grind (arith, nat_tests) in
        le-ltb 1 (length (b ∷ filter (eqb block) bs)) (omega arith)
    by_test false same fresh e = e

-- a block among others that passes a test
record Found (test : ℕ → Bool) (bs : List ℕ) : Type 0 where
  block : ℕ
  among : list_any (eqb block) bs ≡ true
  passes : test block ≡ true

found_in : (test : ℕ → Bool) (bs : List ℕ) → list_any test bs ≡ true → Found test bs
found_in test [] e = absurd (let f : false ≡ true = e in cc)
found_in test (b ∷ bs) e = elim (or_cases (test b) (list_any test bs) e) [
  | inl t ↦ record { block = b; among = ap (λ (s : Bool). s || list_any (eqb b) bs) (eq-eqb b b refl); passes = t }
  | inr t ↦ let f = found_in test bs t in record { block = f.block; among = or_right (eqb f.block b) (list_any (eqb f.block) bs) f.among; passes = f.passes }
]

-- if a block comes twice, some block does
some_twice : (bs : List ℕ) → has_repeats bs ≡ true → Found (λ block. ltb 1 (times bs block)) bs
some_twice [] e = absurd (let f : false ≡ true = e in cc)
some_twice (b ∷ bs) e = elim (or_cases (list_any (eqb b) bs) (has_repeats bs) e) [
  | inl t ↦
      let one : ltb 0 (times bs b) ≡ true = sym (absent bs b) ∙ t in
      let some : 0 < times bs b = grind (arith, nat_tests) in
      let twice : 1 < length (b ∷ filter (eqb b) bs) = omega arith in
      record {
        block = b;
        among = ap (λ (s : Bool). s || list_any (eqb b) bs) (eq-eqb b b refl);
        passes = ap (λ (s : Bool). ltb 1 (length (cond s (b ∷ filter (eqb b) bs) (filter (eqb b) bs)))) (eq-eqb b b refl) ∙ lt-ltb 1 _ twice;
      }
  | inr t ↦
      let f = some_twice bs t in
      let two : ltb 1 (times bs f.block) ≡ true = f.passes in
      let many : 1 < times bs f.block = grind (arith, nat_tests) in
      record {
        block = f.block;
        among = or_right (eqb f.block b) (list_any (eqb f.block) bs) f.among;
        passes = by_test f.block b bs (eqb f.block b) many;
      }
]
  where
    by_test : (block b : ℕ) (bs : List ℕ) (t : Bool) → 1 < times bs block → ltb 1 (length (cond t (b ∷ filter (eqb block) bs) (filter (eqb block) bs))) ≡ true
    by_test block b bs true many = let more : 1 < length (b ∷ filter (eqb block) bs) = omega arith in lt-ltb 1 _ more
    by_test block b bs false many = lt-ltb 1 _ many

-- no block passes a test that is false of each
none_passes : (test : ℕ → Bool) → ((block : ℕ) → test block ≡ false) → (bs : List ℕ) → list_any test bs ≡ false
none_passes test each [] = refl
none_passes test each (b ∷ bs) = or_from (test b) (list_any test bs) (each b) (none_passes test each bs)

-- a block of a disk that passes a test
among_blocks : (test : ℕ → Bool) (block : ℕ) → block < BLOCKS → test block ≡ true → list_any test blocks ≡ true
unfolding blocks
among_blocks test block inside passes =
    let here : get_or (range_with_len 0 BLOCKS) block 0 ≡ block = get_or-range_with_len 0 BLOCKS block 0 inside ∙ (let e : 0 + block ≡ block = omega arith in e) in
    list_any_at test (range_with_len 0 BLOCKS) block 0 (let n = length-range_with_len 0 BLOCKS in omega arith) (ap test here ∙ passes)

-- a disk has each block of a way
within_part : (image : List (List ℕ)) → IsSize (length image) → (pair : Option (ℕ × ℕ)) (q : ℕ) → list_any (eqb q) (blocks_from image pair) ≡ true → q < BLOCKS
within_part image size None q found = absurd (let f : false ≡ true = found in cc)
within_part image size (Some pair) q found =
    let b = bounded image pair in
    let inside = b.trail.within q found in
    let most = size_most (length image) size in omega arith

-- and of a slot's file
within_slot : (image : List (List ℕ)) → IsSize (length image) → (cell : List ℕ) (q : ℕ) → list_any (eqb q) (slot_blocks image cell) ≡ true → q < BLOCKS
within_slot image size cell q found =
    let main = blocks_from image (pair_of Data cell) in
    let side = blocks_from image (pair_of Side cell) in
    elim (or_cases (list_any (eqb q) main) (list_any (eqb q) side) (sym (list_any-append (eqb q) main side) ∙ found)) [
      | inl t ↦ within_part image size (pair_of Data cell) q t
      | inr t ↦ within_part image size (pair_of Side cell) q t
    ]

within_slots : (image : List (List ℕ)) → IsSize (length image) → (cells : List (List ℕ)) (q : ℕ) → list_any (eqb q) (flat_map (slot_blocks image) cells) ≡ true → q < BLOCKS
within_slots image size [] q found = absurd (let f : false ≡ true = found in cc)
within_slots image size (cell ∷ cells) q found =
    elim (or_cases (list_any (eqb q) (slot_blocks image cell)) (list_any (eqb q) (flat_map (slot_blocks image) cells))
    (sym (list_any-append (eqb q) (slot_blocks image cell) (flat_map (slot_blocks image) cells)) ∙ found)) [
      | inl t ↦ within_slot image size cell q t
      | inr t ↦ within_slots image size cells q t
    ]

-- and each block that has an owner
owned_below : (image : List (List ℕ)) → IsSize (length image) → (q : ℕ) → list_any (eqb q) (blocks_owned image) ≡ true → q < BLOCKS
owned_below image size q found =
    let directory = (directory_way image).0 in
    let files = flat_map (slot_blocks image) (way_slots image) in
    elim (or_cases (eqb q map_block) (list_any (eqb q) (directory ++ files)) (sym (ap (list_any (eqb q)) (blocks_owned-are image)) ∙ found)) [
      | inl t ↦ let e : q ≡ 357 = eqb-true q map_block t in omega arith
      | inr t ↦ elim (or_cases (list_any (eqb q) directory) (list_any (eqb q) files) (sym (list_any-append (eqb q) directory files) ∙ t)) [
        | inl d ↦ within_part image size (Some (18, 1)) q d
        | inr f ↦ within_slots image size (way_slots image) q f
      ]
    ]

-- there are blocks with more than one owner if a block is owned twice
shared_is : (image : List (List ℕ)) → IsSize (length image) → list_any (is_shared image) blocks ≡ has_repeats (blocks_owned image)
shared_is image size =
    let bs = blocks_owned image in
    elim (cases_Bool (has_repeats bs)) [
      | inl t ↦
          let f = some_twice bs t in
          among_blocks (is_shared image) f.block (owned_below image size f.block f.among) (ap (ltb 1) (owners-counted image f.block) ∙ f.passes) ∙ sym t
      | inr f ↦ none_passes (is_shared image) (λ b. ap (ltb 1) (owners-counted image b) ∙ no_twice bs b f) blocks ∙ sym f
    ]

shared_record : (image : List (List ℕ)) → IsSize (length image) → blocks_owned image ≡ owned_blocks image → Records (fails image conditions.CrossLinked) 5 (shared_faults image)
unfolding fails
shared_record image size same =
    subst (λ (t : Bool). Records t 5 (shared_faults image)) (shared_is image size ∙ ap has_repeats same)
    (all_record (is_shared image) 5 (λ block. where_so (is_shared image block) (Shared block)) (λ block. one_records (is_shared image block) (Shared block)) blocks)

-- if no block passes a test, each fails it
each_fails : (test : ℕ → Bool) (bs : List ℕ) (block : ℕ) → list_any test bs ≡ false → list_any (eqb block) bs ≡ true → test block ≡ false
each_fails test [] block none among = absurd (let f : false ≡ true = among in cc)
each_fails test (b ∷ bs) block none among =
    let parts = or_parts (test b) (list_any test bs) none in
    elim (or_cases (eqb block b) (list_any (eqb block) bs) among) [
      | inl t ↦ ap test (eqb-true block b t) ∙ parts.0
      | inr t ↦ each_fails test bs block parts.1 t
    ]

-- a block that has an owner comes among those that have one
pub owned_among : (image : List (List ℕ)) (block : ℕ) → is_owned image block ≡ list_any (eqb block) (blocks_owned image)
owned_among image block = ap (ltb 0) (owners-counted image block) ∙ sym (absent (blocks_owned image) block)

and_false : (t : Bool) → (t && false) ≡ false
and_false true = refl
and_false false = refl

free_is : (image : List (List ℕ)) → IsSize (length image)
    → list_any (λ block. is_owned image block && set.contains (free_blocks image) block) blocks ≡ list_any (set.contains (free_blocks image)) (blocks_owned image)
free_is image size =
    let bs = blocks_owned image in
    let is_free : ℕ → Bool = set.contains (free_blocks image) in
    let test : ℕ → Bool = λ block. is_owned image block && is_free block in
    elim (cases_Bool (list_any is_free bs)) [
      | inl t ↦
          let f = found_in is_free bs t in
          among_blocks test f.block (owned_below image size f.block f.among) (ap₂ ◌&&◌ (owned_among image f.block ∙ f.among) f.passes) ∙ sym t
      | inr n ↦ none_passes test (λ b. elim (cases_Bool (is_owned image b)) [
        | inl t ↦ ap (λ (s : Bool). is_owned image b && s) (each_fails is_free bs b n (sym (owned_among image b) ∙ t)) ∙ and_false (is_owned image b)
        | inr f ↦ ap (λ (s : Bool). s && is_free b) f
      ]) blocks ∙ sym n
    ]

free_record : (image : List (List ℕ)) → IsSize (length image) → blocks_owned image ≡ owned_blocks image → Records (fails image conditions.MarkedFree) 6 (free_faults image)
unfolding fails
free_record image size same =
    subst (λ (t : Bool). Records t 6 (free_faults image)) (free_is image size ∙ ap (list_any (set.contains (free_blocks image))) same)
    (all_record (λ block. is_owned image block && set.contains (free_blocks image) block) 6
    (λ block. where_so (is_owned image block && set.contains (free_blocks image) block) (MarkedFree block))
    (λ block. one_records (is_owned image block && set.contains (free_blocks image) block) (MarkedFree block)) blocks)

-- one condition before others
step : (failed : Bool) (fault : DirFault) (others : Option DirFault) (list rest : List Fault) → Records failed (condition_number fault) list
    → (failed ≡ false → first_number rest ≡ option_map condition_number others) → first_number (list ++ rest) ≡ option_map condition_number (cond failed (Some fault) others)
step true fault others list rest t next = first_before list rest (condition_number fault) (t.first refl)
step false fault others list rest t next = ap (λ (l : List Fault). first_number (l ++ rest)) (t.none refl) ∙ next refl

pub least : FirstFaultIsTheLeast
unfolding faults first_fault
least image size =
    step _ conditions.WrongCounts _ (count_faults image) _ (counts_record image) (λ counts.
    step _ conditions.NoDirectory _ (directory_faults image) _ (directory_records image) (λ exists.
    let some = met image conditions.NoDirectory exists in
    step _ conditions.UnknownKind _ (kind_faults image) _ (kinds_record image some) (λ kinds.
    step _ conditions.NoChain _ (file_faults image) _ (files_record image some) (λ chains.
    let same = owned_are image some (met image conditions.NoChain chains) in
    step _ conditions.CrossLinked _ (shared_faults image) _ (shared_record image size same) (λ distinct.
    ap first_number (sym (append-nil (free_faults image))) ∙ step _ conditions.MarkedFree None (free_faults image) [] (free_record image size same) (λ used. refl))))))

-- a number that isn't there is no fault's
no_fault : (fault : Option DirFault) → option_map condition_number fault ≡ None → fault ≡ None
no_fault None e = refl
no_fault (Some fault) e = absurd (let f : Some (condition_number fault) ≡ None = e in cc)

no_faults : (list : List Fault) → first_number list ≡ None → list ≡ []
no_faults [] e = refl
no_faults (fault ∷ list) e = absurd (let f : Some (number fault) ≡ None = e in cc)

pub sound : NoFaultWhereSound
sound image size = (
  λ e. (sound_decides image).0.0 (no_fault (first_fault image sound_conditions) (sym (least image size) ∙ ap first_number e)),
  λ all. no_faults (faults image) (least image size ∙ ap (option_map condition_number) ((sound_decides image).0.1 all)),
)
