-- what the plan of a file's blocks takes
use Rattle.std.proofs.Common.{◌≡◌, ◌≢◌, ℕ, zero, suc, ◌+◌, ◌-◌, ◌<◌, ◌≤◌, ◌&&◌, ◌||◌, not, Bool, true, false, cond, eqb, leb, ltb, nat_eq, Option, Some, None, is_some, List, [], ◌∷◌, ◌++◌, length, take, drop, refl, sym, ap, ◌∙◌, subst, inl, inr, arith}
use Rattle.std.specs.Prelude.{All, MatchOption}
use Rattle.std.specs.List.{range_with_len, flat_map, find, list_any, list_all, count_by, IsDistinct}
use Rattle.std.specs.Option.{option_map, option_and_then}
use Rattle.std.specs.Ordering.{nat_cmp}
use Rattle.std.specs.Cmp.{nat_cmp_total, unsigned_tied}
use Rattle.std.specs.FinSet as set
use Rattle.std.specs.FinSet.{contains-remove}
use Rattle.std.proofs.lemmas.Bool.{cases_eq, cases_Bool, agree_below, agree_below_at, and_parts, or_cases, or_left, or_right, and_from, eq-eqb, ne_eqb, eqb-true, leb-true, ltb-true, le-leb, lt-ltb}
use Rattle.std.proofs.lemmas.Bool.Decides.{nat_tests}
use Rattle.std.proofs.lemmas.List.{append_assoc, take-append-drop}
use Rattle.std.proofs.lemmas.List.Concat.{flat_map-append}
use Rattle.std.proofs.lemmas.List.Folds.{list_any-append}
use Rattle.std.proofs.lemmas.List.Sums.{sum_by-cons}
use Rattle.std.proofs.lemmas.List.Elements.{All-nil, All-cons, All-weaker, recursion_from_All}
use Rattle.d64_image.specs.declared.block.TheConstants.{BLOCKS}
use Rattle.d64_image.specs.Block.{sectors_on, first_block, pair_at}
use Rattle.d64_image.proofs.Zones.{counted_below}
use Rattle.d64_image.proofs.Pairs.{pair_at-counted}
use Rattle.d64_map.specs.Track.{blocks_on}
use Rattle.d64_map.specs.Search.{lower_tracks, upper_tracks, first_order, rotated_list, sector_after, tracks_after, next_order, dir_order}
use Rattle.d64_map.specs.Plan.{plan_after, plan, is_outside, room}
use Rattle.d64_map.specs.Laws.{IsFreeForFiles, IsFreeForDirectory}
use Rattle.d64_map.proofs.Ranges.{any-range}
use Rattle.d64_map.proofs.FreeBlocks.{all_blocks}
use Rattle.d64_map.proofs.Maps.{placed_at}
use Rattle.d64_map.proofs.Searching.{next_order-directory, next_order-other, dir_order-directory, dir_order-other}

-- a number is among those of a list
abbrev pub is_among : List ℕ → ℕ → Bool
is_among xs x = list_any (λ y. nat_eq y x) xs

-- what a search finds passes and is in the list, and if it finds nothing each element of the list
-- fails
record Finds (p : ℕ → Bool) (xs : List ℕ) (x : ℕ) : Type 0 where
  passes : p x ≡ true
  among : is_among xs x ≡ true

find_passes : (p : ℕ → Bool) (xs : List ℕ) (x : ℕ) → find p xs ≡ Some x → Finds p xs x
find_passes p [] x e = absurd (let f : None ≡ Some x = e in cc)
find_passes p (y ∷ xs) x e =
    elim (cases_Bool (p y)) [
      | inl t ↦ let f : Some y ≡ Some x = sym (ap (λ (b : Bool). cond b (Some y) (find p xs)) t) ∙ e in
          let g : y ≡ x = cc in
          record { passes = ap p (sym g) ∙ t; among = or_left (nat_eq y x) (is_among xs x) (eq-eqb y x g) }
      | inr t ↦ let f : find p xs ≡ Some x = sym (ap (λ (b : Bool). cond b (Some y) (find p xs)) t) ∙ e in
          let r = find_passes p xs x f in
          record { passes = r.passes; among = or_right (nat_eq y x) (is_among xs x) r.among }
    ]

find_none : (p : ℕ → Bool) (xs : List ℕ) (x : ℕ) → find p xs ≡ None → is_among xs x ≡ true → p x ≡ false
find_none p [] x e among = absurd (let f : false ≡ true = among in cc)
find_none p (y ∷ xs) x e among =
    elim (cases_Bool (p y)) [
      | inl t ↦ let f : Some y ≡ None = sym (ap (λ (b : Bool). cond b (Some y) (find p xs)) t) ∙ e in cc
      | inr t ↦ elim (or_cases (nat_eq y x) (is_among xs x) among) [
        | inl same ↦ ap p (sym (eqb-true y x same)) ∙ t
        | inr later ↦ find_none p xs x (sym (ap (λ (b : Bool). cond b (Some y) (find p xs)) t) ∙ e) later
      ]
    ]

-- a track that files may take
abbrev is_file_track : ℕ → Bool
is_file_track t = leb 1 t && ltb t 41 && not (eqb t 18)

record IsFileTrack (t : ℕ) : Type 0 where
  from_one : 1 ≤ t
  within : t < 41
  outside : t ≢ 18

file_track : (t : ℕ) → is_file_track t ≡ true → IsFileTrack t
file_track t h =
    let a = and_parts (leb 1 t && ltb t 41) (not (eqb t 18)) h in
    let b = and_parts (leb 1 t) (ltb t 41) a.0 in
    record { from_one = leb-true 1 t b.0; within = ltb-true t 41 b.1; outside = λ e. let f : not (eqb t 18) ≡ false = ap not (eq-eqb t 18 e) in let g : true ≡ false = sym a.1 ∙ f in cc }

is_file_track-from : (t : ℕ) → 1 ≤ t → t < 41 → t ≢ 18 → is_file_track t ≡ true
is_file_track-from t one last outside = and_from (leb 1 t && ltb t 41) (not (eqb t 18)) (and_from (leb 1 t) (ltb t 41) (le-leb 1 t one) (lt-ltb t 41 last)) (ap not (ne_eqb t 18 outside))

-- the blocks on a track are those of that track
on_track : (t block : ℕ) → 1 ≤ t → t < 41 → is_among (blocks_on t) block ≡ true → (block < BLOCKS) × ((pair_at block).0 ≡ t)
unfolding blocks_on
on_track t block one last among =
    let h = and_parts (leb (first_block t) block) (ltb block (first_block t + sectors_on t)) (sym (any-range (first_block t) (sectors_on t) block) ∙ among) in
    let from = leb-true (first_block t) block h.0 in
    let to = ltb-true block (first_block t + sectors_on t) h.1 in
    let held : block - first_block t < sectors_on t = omega arith in
    let e : first_block t + (block - first_block t) ≡ block = omega arith in (
      subst (λ (n : ℕ). n < BLOCKS) e (counted_below t (block - first_block t) last held),
      ap (λ (x : ℕ × ℕ). x.0) (sym (ap pair_at e) ∙ pair_at-counted t (block - first_block t) one last held),
    )

track_holds : (block : ℕ) → block < BLOCKS → is_among (blocks_on (pair_at block).0) block ≡ true
unfolding blocks_on
track_holds block h =
    let p = placed_at block h in
    let t : ℕ = (pair_at block).0 in
    let s : ℕ = (pair_at block).1 in
    let e : first_block t + s ≡ block = p.counted in
    let held : s < sectors_on t = p.held in
    any-range (first_block t) (sectors_on t) block
    ∙ and_from (leb (first_block t) block) (ltb block (first_block t + sectors_on t)) (le-leb (first_block t) block (omega arith)) (lt-ltb block (first_block t + sectors_on t) (omega arith))

-- the blocks on several tracks are those of these tracks
on_tracks : (ts : List ℕ) (block : ℕ) → list_all is_file_track ts ≡ true → is_among (flat_map blocks_on ts) block ≡ true → (block < BLOCKS) × (is_file_track (pair_at block).0 ≡ true)
on_tracks [] block legal among = absurd (let f : false ≡ true = among in cc)
on_tracks (t ∷ ts) block legal among =
    let l = and_parts (is_file_track t) (list_all is_file_track ts) legal in
    let a : (is_among (blocks_on t) block || is_among (flat_map blocks_on ts) block) ≡ true = sym (list_any-append (λ y. nat_eq y block) (blocks_on t) (flat_map blocks_on ts)) ∙ among in
    elim (or_cases (is_among (blocks_on t) block) (is_among (flat_map blocks_on ts) block) a) [
      | inl here ↦ let f = file_track t l.0 in let o = on_track t block f.from_one f.within here in (o.0, ap is_file_track o.1 ∙ l.0)
      | inr later ↦ on_tracks ts block l.1 later
    ]

tracks_hold : (ts : List ℕ) (block : ℕ) → block < BLOCKS → is_among ts (pair_at block).0 ≡ true → is_among (flat_map blocks_on ts) block ≡ true
tracks_hold [] block h among = among
tracks_hold (t ∷ ts) block h among =
    list_any-append (λ y. nat_eq y block) (blocks_on t) (flat_map blocks_on ts)
    ∙ elim (or_cases (nat_eq t (pair_at block).0) (is_among ts (pair_at block).0) among) [
      | inl same ↦ or_left (is_among (blocks_on t) block) (is_among (flat_map blocks_on ts) block) (ap (λ (x : ℕ). is_among (blocks_on x) block) (eqb-true t (pair_at block).0 same) ∙ track_holds block h)
      | inr later ↦ or_right (is_among (blocks_on t) block) (is_among (flat_map blocks_on ts) block) (tracks_hold ts block h later)
    ]

-- the tracks of the first order
abbrev two_tracks : ℕ → List ℕ
two_tracks d = (18 - d) ∷ (18 + d) ∷ []

first_tracks : List ℕ
first_tracks = flat_map two_tracks (range_with_len 1 17) ++ range_with_len 36 5

two_by_two : (ds : List ℕ) → flat_map (λ d. blocks_on (18 - d) ++ blocks_on (18 + d)) ds ≡ flat_map blocks_on (flat_map two_tracks ds)
two_by_two [] = refl
two_by_two (d ∷ ds) =
    append_assoc (blocks_on (18 - d)) (blocks_on (18 + d)) (flat_map (λ x. blocks_on (18 - x) ++ blocks_on (18 + x)) ds)
    ∙ ap (λ (xs : List ℕ). blocks_on (18 - d) ++ (blocks_on (18 + d) ++ xs)) (two_by_two ds)

first_order-is : first_order ≡ flat_map blocks_on first_tracks
unfolding first_order first_tracks
first_order-is =
    ap (λ (xs : List ℕ). xs ++ flat_map blocks_on (range_with_len 36 5)) (two_by_two (range_with_len 1 17))
    ∙ sym (flat_map-append blocks_on (flat_map two_tracks (range_with_len 1 17)) (range_with_len 36 5))

first_tracks-legal : list_all is_file_track first_tracks ≡ true
unfolding first_tracks
first_tracks-legal = refl

first_tracks-all : (t : ℕ) → t < 41 → is_among first_tracks t ≡ is_file_track t
unfolding first_tracks
first_tracks-all t h = agree_below_at (is_among first_tracks) is_file_track 41 t refl h

-- the tracks after one are all the others
after_legal : (t : ℕ) → t < 41 → (not (is_file_track t) || list_all is_file_track (tracks_after t)) ≡ true
unfolding tracks_after lower_tracks upper_tracks
after_legal t h = agree_below_at (λ x. not (is_file_track x) || list_all is_file_track (tracks_after x)) (λ _. true) 41 t refl h

after_all : (t : ℕ) → t < 41 → (not (is_file_track t) || agree_below (λ x. nat_eq t x || is_among (tracks_after t) x) is_file_track 41) ≡ true
unfolding tracks_after lower_tracks upper_tracks
after_all t h = agree_below_at (λ y. not (is_file_track y) || agree_below (λ x. nat_eq y x || is_among (tracks_after y) x) is_file_track 41) (λ _. true) 41 t refl h

from_or : (a b : Bool) → a ≡ true → (not a || b) ≡ true → b ≡ true
from_or true b e h = h
from_or false b e h = absurd (let f : false ≡ true = e in cc)

-- a rotated list has the same numbers
or_comm : (a b : Bool) → (a || b) ≡ (b || a)
or_comm true true = refl
or_comm true false = refl
or_comm false true = refl
or_comm false false = refl

among-rotated_list : (a x : ℕ) (xs : List ℕ) → is_among (rotated_list a xs) x ≡ is_among xs x
among-rotated_list a x xs =
    list_any-append (λ y. nat_eq y x) (drop a xs) (take a xs) ∙ or_comm (is_among (drop a xs) x) (is_among (take a xs) x)
    ∙ sym (list_any-append (λ y. nat_eq y x) (take a xs) (drop a xs)) ∙ ap (λ (ys : List ℕ). is_among ys x) (take-append-drop a xs)

-- an order of search for files has exactly the blocks outside track 18
record IsFileOrder (order : List ℕ) : Type 0 where
  legal : (block : ℕ) → is_among order block ≡ true → (block < BLOCKS) × (is_file_track (pair_at block).0 ≡ true)
  whole : (block : ℕ) → block < BLOCKS → is_file_track (pair_at block).0 ≡ true → is_among order block ≡ true

first_order-whole : IsFileOrder first_order
first_order-whole = record {
  legal = λ block among. on_tracks first_tracks block first_tracks-legal (ap (λ (xs : List ℕ). is_among xs block) (sym first_order-is) ∙ among);
  whole = λ block h outside.
      ap (λ (xs : List ℕ). is_among xs block) first_order-is
      ∙ tracks_hold first_tracks block h (let p = placed_at block h in first_tracks-all (pair_at block).0 p.within ∙ outside);
}

next_order-whole : (last : ℕ) → last < BLOCKS → IsFileOrder (next_order last)
next_order-whole last h =
    elim (cases_eq (pair_at last).0 18) [
      | inl e ↦ subst IsFileOrder (sym (next_order-directory last e)) first_order-whole
      | inr e ↦
          let p = placed_at last h in
          let t : ℕ = (pair_at last).0 in
          let own : is_file_track t ≡ true = is_file_track-from t p.from_one p.within e in
          let a : ℕ = sector_after 10 (sectors_on t) (pair_at last).1 in
          let legal_after = from_or (is_file_track t) (list_all is_file_track (tracks_after t)) own (after_legal t p.within) in
          let all_after = from_or (is_file_track t) (agree_below (λ x. nat_eq t x || is_among (tracks_after t) x) is_file_track 41) own (after_all t p.within) in
          let split = λ (block : ℕ). ap (λ (xs : List ℕ). is_among xs block) (next_order-other last e)
          ∙ list_any-append (λ y. nat_eq y block) (rotated_list a (blocks_on t)) (flat_map blocks_on (tracks_after t))
          ∙ ap (λ (b : Bool). b || is_among (flat_map blocks_on (tracks_after t)) block) (among-rotated_list a block (blocks_on t)) in
          record {
            legal = λ block among.
                elim (or_cases (is_among (blocks_on t) block) (is_among (flat_map blocks_on (tracks_after t)) block) (sym (split block) ∙ among)) [
                  | inl here ↦ let o = on_track t block p.from_one p.within here in (o.0, ap is_file_track o.1 ∙ own)
                  | inr later ↦ on_tracks (tracks_after t) block legal_after later
                ];
            whole = λ block k outside.
                let q = placed_at block k in
                let in_all = agree_below_at (λ x. nat_eq t x || is_among (tracks_after t) x) is_file_track 41 (pair_at block).0 all_after q.within ∙ outside in
                split block
                ∙ elim (or_cases (nat_eq t (pair_at block).0) (is_among (tracks_after t) (pair_at block).0) in_all) [
                  | inl same ↦ or_left (is_among (blocks_on t) block) (is_among (flat_map blocks_on (tracks_after t)) block) (ap (λ (x : ℕ). is_among (blocks_on x) block) (eqb-true t (pair_at block).0 same) ∙ track_holds block k)
                  | inr later ↦ or_right (is_among (blocks_on t) block) (is_among (flat_map blocks_on (tracks_after t)) block) (tracks_hold (tracks_after t) block k later)
                ];
          }
    ]

-- counts along a range of a test that no number passes, and of one that one number less passes
count_none : (p : ℕ → Bool) (a n : ℕ) → ((k : ℕ) → a ≤ k → k < a + n → p k ≡ false) → count_by p (range_with_len a n) ≡ 0
count_none p a zero none = refl
count_none p a (suc n) none =
    sum_by-cons (λ x. cond (p x) 1 0) a (range_with_len (a + 1) n)
    ∙ ap (λ (b : Bool). cond b 1 0 + count_by p (range_with_len (a + 1) n)) (none a (omega arith) (omega arith))
    ∙ ap (λ (x : ℕ). 0 + x) (count_none p (a + 1) n (λ k l h. none k (omega arith) (omega arith)))

count_alike : (p q : ℕ → Bool) (a n : ℕ) → ((k : ℕ) → a ≤ k → k < a + n → p k ≡ q k) → count_by p (range_with_len a n) ≡ count_by q (range_with_len a n)
count_alike p q a zero alike = refl
count_alike p q a (suc n) alike =
    sum_by-cons (λ x. cond (p x) 1 0) a (range_with_len (a + 1) n)
    ∙ ap (λ (b : Bool). cond b 1 0 + count_by p (range_with_len (a + 1) n)) (alike a (omega arith) (omega arith))
    ∙ ap (λ (x : ℕ). cond (q a) 1 0 + x) (count_alike p q (a + 1) n (λ k l h. alike k (omega arith) (omega arith)))
    ∙ sym (sum_by-cons (λ x. cond (q x) 1 0) a (range_with_len (a + 1) n))

-- a test as a number
abbrev tally : Bool → ℕ
tally b = cond b 1 0

count_less : (p q : ℕ → Bool) (a n x : ℕ) → a ≤ x → x < a + n → p x ≡ true → q x ≡ false → ((k : ℕ) → k ≢ x → q k ≡ p k)
    → count_by q (range_with_len a n) + 1 ≡ count_by p (range_with_len a n)
count_less p q a zero x l h t f alike = absurd (omega arith)
count_less p q a (suc n) x l h t f alike =
    let sp : count_by p (range_with_len a (suc n)) ≡ tally (p a) + count_by p (range_with_len (a + 1) n) = sum_by-cons (λ y. cond (p y) 1 0) a (range_with_len (a + 1) n) in
    let sq : count_by q (range_with_len a (suc n)) ≡ tally (q a) + count_by q (range_with_len (a + 1) n) = sum_by-cons (λ y. cond (q y) 1 0) a (range_with_len (a + 1) n) in
    elim (cases_eq a x) [
      | inl e ↦
          let r = count_alike q p (a + 1) n (λ k m _. alike k (λ z. omega arith)) in
          let u : tally (p a) ≡ 1 = ap (λ (k : ℕ). tally (p k)) e ∙ ap tally t in
          let v : tally (q a) ≡ 0 = ap (λ (k : ℕ). tally (q k)) e ∙ ap tally f in
          omega arith
      | inr e ↦
          let r = count_less p q (a + 1) n x (omega arith) (omega arith) t f alike in
          let u : tally (q a) ≡ tally (p a) = ap tally (alike a e) in
          omega arith
    ]

-- a block is removed: it is no member any more, and every other block is one as before
remove-same : (free : set.FinSet nat_cmp) (block : ℕ) → set.contains (set.remove free block) block ≡ false
remove-same free block =
    contains-remove nat_cmp_total free block block
    ∙ ap (λ (b : Bool). not b && set.contains free block) (unsigned_tied block block ∙ eq-eqb block block refl)

remove-other : (free : set.FinSet nat_cmp) (block q : ℕ) → q ≢ block → set.contains (set.remove free block) q ≡ set.contains free q
remove-other free block q other =
    contains-remove nat_cmp_total free block q
    ∙ ap (λ (b : Bool). not b && set.contains free q) (unsigned_tied q block ∙ ne_eqb q block other)

-- the members that files may take, as a test
abbrev for_files : set.FinSet nat_cmp → ℕ → Bool
for_files free block = set.contains free block && is_outside block

room-is : (free : set.FinSet nat_cmp) (n : ℕ) → n ≡ BLOCKS → room free ≡ count_by (for_files free) (range_with_len 0 n)
unfolding room
room-is free n e = ap (count_by (for_files free)) (sym (all_blocks n e))

outside_from : (block : ℕ) → is_file_track (pair_at block).0 ≡ true → is_outside block ≡ true
outside_from block h = let f = file_track (pair_at block).0 h in ap not (ne_eqb (pair_at block).0 18 f.outside)

-- if a search in a whole order finds nothing no block is left, and a block that it finds is one less
no_room : (free : set.FinSet nat_cmp) (order : List ℕ) → IsFileOrder order → find (set.contains free) order ≡ None → room free ≡ 0
no_room free order is none =
    room-is free BLOCKS refl
    ∙ count_none (for_files free) 0 BLOCKS (λ k _ h.
    elim (cases_eq (pair_at k).0 18) [
      | inl e ↦ let f : is_outside k ≡ false = ap not (eq-eqb (pair_at k).0 18 e) in ap (λ (b : Bool). set.contains free k && b) f ∙ and_false (set.contains free k)
      | inr e ↦ let p = placed_at k (omega arith) in
          ap (λ (b : Bool). b && is_outside k) (find_none (set.contains free) order k none (is.whole k (omega arith) (is_file_track-from (pair_at k).0 p.from_one p.within e)))
    ])
  where
    and_false : (b : Bool) → (b && false) ≡ false
    and_false true = refl
    and_false false = refl

-- what a search in a whole order finds
record IsPick (free : set.FinSet nat_cmp) (block : ℕ) : Type 0 where
  free_for_files : IsFreeForFiles free block
  less : room (set.remove free block) + 1 ≡ room free

pick_is : (free : set.FinSet nat_cmp) (order : List ℕ) (block : ℕ) → IsFileOrder order → find (set.contains free) order ≡ Some block → IsPick free block
pick_is free order block is found =
    let f = find_passes (set.contains free) order block found in
    let l = is.legal block f.among in
    let t = file_track (pair_at block).0 l.1 in
    let after : set.FinSet nat_cmp = set.remove free block in
    let r : count_by (for_files after) (range_with_len 0 BLOCKS) + 1 ≡ count_by (for_files free) (range_with_len 0 BLOCKS) =
    count_less (for_files free) (for_files after) 0 BLOCKS block (omega arith) (let m = l.0 in omega arith)
    (and_from (set.contains free block) (is_outside block) f.passes (outside_from block l.1))
    (ap (λ (b : Bool). b && is_outside block) (remove-same free block))
    (λ k other. ap (λ (b : Bool). b && is_outside k) (remove-other free block k other)) in
    record {
      free_for_files = (f.passes, l.0, t.outside);
      less = ap (λ (x : ℕ). x + 1) (room-is after BLOCKS refl) ∙ r ∙ sym (room-is free BLOCKS refl);
    }

-- what is free after a block was taken was free before, and is another block
still_free : (free : set.FinSet nat_cmp) (block q : ℕ) → IsFreeForFiles (set.remove free block) q → IsFreeForFiles free q × (nat_eq block q ≡ false)
still_free free block q h =
    elim (cases_eq q block) [
      | inl e ↦ let f : true ≡ false = sym h.0 ∙ ap (set.contains (set.remove free block)) e ∙ remove-same free block in cc
      | inr e ↦ ((sym (remove-other free block q e) ∙ h.0, h.1, h.2), ne_eqb block q (λ z. e (sym z)))
    ]

-- what a plan is to be
record IsChoice (free : set.FinSet nat_cmp) (count : ℕ) (taken : List ℕ) : Type 0 where
  long : length taken ≡ count
  members : All (IsFreeForFiles free) taken
  distinct : IsDistinct nat_eq taken

empty_choice : (free : set.FinSet nat_cmp) → IsChoice free 0 []
unfolding IsDistinct
empty_choice free = record { long = refl; members = All-nil (IsFreeForFiles free); distinct = tt }

choice_more : (free : set.FinSet nat_cmp) (block count : ℕ) (rest : List ℕ) → IsPick free block → IsChoice (set.remove free block) count rest → IsChoice free (suc count) (block ∷ rest)
unfolding IsDistinct
choice_more free block count rest pick is = record {
  long = ap suc is.long;
  members = All-cons (IsFreeForFiles free) block rest pick.free_for_files (All-weaker (IsFreeForFiles (set.remove free block)) (IsFreeForFiles free) (λ q h. (still_free free block q h).0) rest is.members);
  distinct = (recursion_from_All (λ q. nat_eq block q ≡ false) rest (All-weaker (IsFreeForFiles (set.remove free block)) (λ q. nat_eq block q ≡ false) (λ q h. (still_free free block q h).1) rest is.members), is.distinct);
}

-- a step of a plan: a pick, and a plan for the rest
abbrev step : (ℕ → Option (List ℕ)) → Option ℕ → Option (List ℕ)
step next picked = option_and_then (λ block. option_map (λ rest. block ∷ rest) (next block)) picked

step_choice : (free : set.FinSet nat_cmp) (order : List ℕ) (count : ℕ) (next : ℕ → Option (List ℕ)) (taken : List ℕ) → IsFileOrder order
    → ((block : ℕ) (rest : List ℕ) → block < BLOCKS → next block ≡ Some rest → IsChoice (set.remove free block) count rest)
    → (picked : Option ℕ) → find (set.contains free) order ≡ picked → step next picked ≡ Some taken → IsChoice free (suc count) taken
step_choice free order count next taken is each None found e = absurd (let f : None ≡ Some taken = e in cc)
step_choice free order count next taken is each (Some block) found e =
    let pick = pick_is free order block is found in
    go (next block) refl e
  where
    go : (o : Option (List ℕ)) → next block ≡ o → option_map (λ rest. block ∷ rest) o ≡ Some taken → IsChoice free (suc count) taken
    go None same f = absurd (let g : None ≡ Some taken = f in cc)
    go (Some rest) same f =
        let pick = pick_is free order block is found in
        let g : block ∷ rest ≡ taken = cc in
        subst (IsChoice free (suc count)) g (choice_more free block count rest pick (each block rest pick.free_for_files.1 same))

plan_after-choice : (count : ℕ) (free : set.FinSet nat_cmp) (last : ℕ) (taken : List ℕ) → last < BLOCKS → plan_after free last count ≡ Some taken → IsChoice free count taken
unfolding plan_after
plan_after-choice zero free last taken h e = let f : [] ≡ taken = cc in subst (IsChoice free 0) f (empty_choice free)
plan_after-choice (suc count) free last taken h e =
    step_choice free (next_order last) count (λ next. plan_after (set.remove free next) next count) taken (next_order-whole last h)
    (λ block rest k f. plan_after-choice count (set.remove free block) block rest k f) (find (set.contains free) (next_order last)) refl e

plan-is_choice : (count : ℕ) (free : set.FinSet nat_cmp) (taken : List ℕ) → plan free count ≡ Some taken → IsChoice free count taken
unfolding plan
plan-is_choice zero free taken e = let f : [] ≡ taken = cc in subst (IsChoice free 0) f (empty_choice free)
plan-is_choice (suc count) free taken e =
    step_choice free first_order count (λ first. plan_after (set.remove free first) first count) taken first_order-whole
    (λ block rest k f. plan_after-choice count (set.remove free block) block rest k f) (find (set.contains free) first_order) refl e

pub plan-choice : (count : ℕ) (free : set.FinSet nat_cmp) (taken : List ℕ) → plan free count ≡ Some taken → (length taken ≡ count) × All (IsFreeForFiles free) taken × IsDistinct nat_eq taken
plan-choice count free taken e = let is = plan-is_choice count free taken e in (is.long, is.members, is.distinct)

-- there is a plan exactly if enough blocks are free
is_some-map : (block : ℕ) (o : Option (List ℕ)) → is_some (option_map (λ rest. block ∷ rest) o) ≡ is_some o
is_some-map block None = refl
is_some-map block (Some rest) = refl

step_there : (free : set.FinSet nat_cmp) (order : List ℕ) (count : ℕ) (next : ℕ → Option (List ℕ)) → IsFileOrder order
    → ((block : ℕ) → block < BLOCKS → is_some (next block) ≡ leb count (room (set.remove free block)))
    → (picked : Option ℕ) → find (set.contains free) order ≡ picked → is_some (step next picked) ≡ leb (suc count) (room free)
step_there free order count next is each None found = let r = no_room free order is found in grind (arith, nat_tests)
step_there free order count next is each (Some block) found =
    let pick = pick_is free order block is found in
    let less = pick.less in
    let e = each block pick.free_for_files.1 in
    is_some-map block (next block) ∙ e ∙ grind (arith, nat_tests)

plan_after-there : (count : ℕ) (free : set.FinSet nat_cmp) (last : ℕ) → last < BLOCKS → is_some (plan_after free last count) ≡ leb count (room free)
unfolding plan_after
plan_after-there zero free last h = grind (arith, nat_tests)
plan_after-there (suc count) free last h =
    step_there free (next_order last) count (λ next. plan_after (set.remove free next) next count) (next_order-whole last h)
    (λ block k. plan_after-there count (set.remove free block) block k) (find (set.contains free) (next_order last)) refl

pub plan-there : (count : ℕ) (free : set.FinSet nat_cmp) → is_some (plan free count) ≡ leb count (room free)
unfolding plan
plan-there zero free = grind (arith, nat_tests)
plan-there (suc count) free =
    step_there free first_order count (λ first. plan_after (set.remove free first) first count) first_order-whole
    (λ block k. plan_after-there count (set.remove free block) block k) (find (set.contains free) first_order) refl

-- the order for the directory has the blocks of track 18
among-dir_order : (last block : ℕ) → is_among (dir_order last) block ≡ is_among (blocks_on 18) block
among-dir_order last block =
    elim (cases_eq (pair_at last).0 18) [
      | inl e ↦ ap (λ (xs : List ℕ). is_among xs block) (dir_order-directory last e) ∙ among-rotated_list (sector_after 3 (sectors_on 18) (pair_at last).1) block (blocks_on 18)
      | inr e ↦ ap (λ (xs : List ℕ). is_among xs block) (dir_order-other last e)
    ]

pub dir_pick : (free : set.FinSet nat_cmp) (last : ℕ) (picked : Option ℕ) → find (set.contains free) (dir_order last) ≡ picked
    → MatchOption picked ((block : ℕ) → ¬ IsFreeForDirectory free block) (λ block. IsFreeForDirectory free block)
dir_pick free last None found = λ block is.
    let f = find_none (set.contains free) (dir_order last) block found (among-dir_order last block ∙ ap (λ (t : ℕ). is_among (blocks_on t) block) (sym is.2) ∙ track_holds block is.1) in
    let g : true ≡ false = sym is.0 ∙ f in
    cc
dir_pick free last (Some block) found =
    let f = find_passes (set.contains free) (dir_order last) block found in
    let o = on_track 18 block (omega arith) (omega arith) (sym (among-dir_order last block) ∙ f.among) in
    (f.passes, o.0, o.1)
