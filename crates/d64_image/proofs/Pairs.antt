-- blocks and pairs agree both ways
use Rattle.std.proofs.Common.{◌≡◌, ℕ, zero, suc, ◌+◌, ◌-◌, ◌*◌, ◌/◌, ◌%◌, ◌<◌, ◌≤◌, ◌==◌, ◌&&◌, Bool, true, false, ltb, List, Some, None, length, get_or, take, refl, sym, ap, ap₂, ◌∙◌, subst, arith}
use Rattle.std.specs.Prelude.{position}
use Rattle.std.specs.List.{flat_map, range_with_len, position_or_len}
use Rattle.std.proofs.lemmas.Bool.Decides.{nat_tests}
use Rattle.std.proofs.lemmas.List.Concat.{get_or-flat_map}
use Rattle.std.proofs.lemmas.List.FromFn.{length-range_with_len, get_or-range_with_len, length-map-range_with_len, get_or-map-range_with_len}
use Rattle.std.proofs.lemmas.List.Quantifiers.{position-Some}
use Rattle.std.proofs.lemmas.List.Sums.{position_or_len_is}
use Rattle.d64_image.specs.Block.{sectors_on, first_block, pairs, pairs_on, pair_at, block_of}
use Rattle.d64_image.specs.Zone.{LiesIn}
use Rattle.d64_image.specs.declared.block.Zone.{Zone}
use Rattle.d64_image.proofs.Zones.{equal_below, Placed, placed, counted_below}

-- on the tracks up to n, the pair of a track and a sector comes after the pairs of the tracks
-- before it
get_or-tracks : (n i s : ℕ) → i < n → s < sectors_on (1 + i)
    → get_or (flat_map pairs_on (range_with_len 1 n)) (length (flat_map pairs_on (take i (range_with_len 1 n))) + s) (0, 0) ≡ (1 + i, s)
get_or-tracks n i s h k =
    let l = length-range_with_len 1 n in
    let e : get_or (range_with_len 1 n) i 0 ≡ 1 + i = get_or-range_with_len 1 n i 0 h in
    let m : length (pairs_on (get_or (range_with_len 1 n) i 0)) ≡ sectors_on (1 + i) =
    ap (λ (x : ℕ). length (pairs_on x)) e ∙ length-map-range_with_len (λ (j : ℕ). (1 + i, j)) 0 (sectors_on (1 + i)) in
    get_or-flat_map pairs_on (range_with_len 1 n) i s 0 (0, 0) (omega arith) (omega arith)
    ∙ ap (λ (x : ℕ). get_or (pairs_on x) s (0, 0)) e
    ∙ get_or-map-range_with_len (λ (j : ℕ). (1 + i, j)) 0 (sectors_on (1 + i)) s s (0, 0) k (omega arith)

-- as many pairs come before a track as its first block says
pairs_before : (i : ℕ) → i < 40 → length (flat_map pairs_on (take i (range_with_len 1 40))) ≡ first_block (1 + i)
unfolding first_block
pairs_before i h = equal_below (λ j. length (flat_map pairs_on (take j (range_with_len 1 40)))) (λ j. first_block (1 + j)) 40 refl i h

-- there are 768 legal pairs
pub length-pairs : length pairs ≡ 768
unfolding pairs
length-pairs = refl

-- the pair of a block is that at its place in the list
at_pairs : (k : ℕ) → get_or pairs k (0, 0) ≡ pair_at k
unfolding pair_at
at_pairs k = refl

-- the block of a legal pair has that pair
pair_at-after : (i s : ℕ) → i < 40 → s < sectors_on (1 + i) → pair_at (first_block (1 + i) + s) ≡ (1 + i, s)
unfolding pair_at pairs
pair_at-after i s h k =
    ap (λ (x : ℕ). get_or (flat_map pairs_on (range_with_len 1 40)) (x + s) (0, 0)) (sym (pairs_before i h)) ∙ get_or-tracks 40 i s h k

-- the same, by the track
pub pair_at-counted : (t s : ℕ) → 1 ≤ t → t < 41 → s < sectors_on t → pair_at (first_block t + s) ≡ (t, s)
pair_at-counted zero s l h k = absurd (omega arith)
pair_at-counted (suc i) s l h k =
    let e : 1 + i ≡ suc i = omega arith in
    subst (λ (t : ℕ). s < sectors_on t → pair_at (first_block t + s) ≡ (t, s)) e (λ m. pair_at-after i s (omega arith) m) k

-- the test whether a pair is that one
abbrev is_pair : ℕ → ℕ → ℕ × ℕ → Bool
is_pair t s pair = (pair.0 == t) && (pair.1 == s)

-- a pair passes its own test
is_pair-same : (t s : ℕ) → is_pair t s (t, s) ≡ true
is_pair-same t s = grind (arith, nat_tests)

-- a pair with another track or sector fails it
is_pair-other : (t s a b : ℕ) → ((a ≡ t) → (b ≡ s) → ⊥) → is_pair t s (a, b) ≡ false
is_pair-other t s a b h = grind (arith, nat_tests)

-- so does any other pair
is_pair-not : (t s : ℕ) (x : ℕ × ℕ) → (x ≡ (t, s) → ⊥) → is_pair t s x ≡ false
is_pair-not t s x h = is_pair-other t s x.0 x.1 (λ p q. h (ap₂ (λ (a b : ℕ). (a, b)) p q))

-- the place of a pair that comes first there
position-first : (xs : List (ℕ × ℕ)) (t s r : ℕ) → r < length xs → get_or xs r (0, 0) ≡ (t, s)
    → ((k : ℕ) → k < r → get_or xs k (0, 0) ≡ (t, s) → ⊥) → position (is_pair t s) xs ≡ Some r
position-first xs t s r h here before =
    let e : position_or_len (is_pair t s) xs ≡ r =
    position_or_len_is (is_pair t s) xs r (0, 0) (omega arith) (λ k m. is_pair-not t s (get_or xs k (0, 0)) (before k m))
    (λ _. ap (is_pair t s) here ∙ is_pair-same t s) in
    let b : ltb r (length xs) ≡ true = grind (arith, nat_tests) in
    rw e (rw b)

-- a pair that is not in a list has no place
position-none : (xs : List (ℕ × ℕ)) (t s : ℕ) → ((k : ℕ) → k < length xs → get_or xs k (0, 0) ≡ (t, s) → ⊥)
    → position (is_pair t s) xs ≡ None
position-none xs t s nowhere =
    let e : position_or_len (is_pair t s) xs ≡ length xs =
    position_or_len_is (is_pair t s) xs (length xs) (0, 0) (omega arith) (λ k m. is_pair-not t s (get_or xs k (0, 0)) (nowhere k m)) (λ m. absurd (omega arith)) in
    let b : ltb (length xs) (length xs) ≡ false = grind (arith, nat_tests) in
    rw e (rw b)

-- the pair at a block is legal, and the block is counted from it
pub counted_apart : (t s k : ℕ) → k < 768 → pair_at k ≡ (t, s) → (1 ≤ t) × (t < 41) × (s < sectors_on t) × (first_block t + s ≡ k)
counted_apart t s k h e =
    let p : Placed k = placed k h in
    let q : pair_at k ≡ (p.track, p.sector) = ap pair_at (sym p.counted) ∙ pair_at-counted p.track p.sector p.from_one p.within p.held in
    let a : p.track ≡ t = ap (λ (x : ℕ × ℕ). x.0) (sym q ∙ e) in
    let b : p.sector ≡ s = ap (λ (x : ℕ × ℕ). x.1) (sym q ∙ e) in
    let one : 1 ≤ t = subst (λ (x : ℕ). 1 ≤ x) a p.from_one in
    let last : t < 41 = subst (λ (x : ℕ). x < 41) a p.within in
    (one, last, subst (λ (x : ℕ). s < sectors_on x) a (subst (λ (y : ℕ). y < sectors_on p.track) b p.held), ap (λ (x : ℕ). first_block x + s) (sym a) ∙ ap (λ (y : ℕ). first_block p.track + y) (sym b) ∙ p.counted)

-- the block of a legal pair is counted from the track's first block
pub block_of-legal : (t s : ℕ) → 1 ≤ t → t < 41 → s < sectors_on t → block_of t s ≡ Some (first_block t + s)
unfolding block_of
block_of-legal t s l h k =
    position-first pairs t s (first_block t + s) (subst (λ (n : ℕ). first_block t + s < n) (sym length-pairs) (counted_below t s h k)) (at_pairs (first_block t + s) ∙ pair_at-counted t s l h k)
    (λ j m e. let c = counted_apart t s j (let b = counted_below t s h k in omega arith) (sym (at_pairs j) ∙ e) in omega arith)

-- a pair that is not legal has no block
pub block_of-none : (t s : ℕ) → ((1 ≤ t) → (t < 41) → s < sectors_on t → ⊥) → block_of t s ≡ None
unfolding block_of
block_of-none t s h =
    position-none pairs t s (λ j m e. let c = counted_apart t s j (subst (λ (n : ℕ). j < n) length-pairs m) (sym (at_pairs j) ∙ e) in h c.0 c.1 c.2)

-- the block of a block's own pair is that block
pub block_of-pair_at : (k : ℕ) → k < 768 → block_of (pair_at k).0 (pair_at k).1 ≡ Some k
block_of-pair_at k h =
    let c = counted_apart (pair_at k).0 (pair_at k).1 k h refl in
    block_of-legal (pair_at k).0 (pair_at k).1 c.0 c.1 c.2 ∙ ap (λ (x : ℕ). Some x) c.3

-- a place is counted from the front of its zone by whole tracks and a rest
counted_from : (track begin sectors block : ℕ) → 0 < sectors → begin ≤ block
    → begin + (track + (block - begin) / sectors - track) * sectors + (block - begin) % sectors ≡ block
counted_from track begin sectors block some starts =
    let e : track + (block - begin) / sectors - track ≡ (block - begin) / sectors = omega arith in rw e (omega arith)

-- the pair of a block of a zone
pub pair_at-in_zone : (zone : Zone) (block : ℕ) → 0 < zone.sectors → 1 ≤ zone.first_track → zone.first_block ≤ block
    → LiesIn zone (zone.first_track + (block - zone.first_block) / zone.sectors)
    → (zone.first_track + (block - zone.first_block) / zone.sectors, (block - zone.first_block) % zone.sectors) ≡ pair_at block
pair_at-in_zone zone block some one starts lies =
    let track : ℕ = zone.first_track + (block - zone.first_block) / zone.sectors in
    let sector : ℕ = (block - zone.first_block) % zone.sectors in
    let held : sector < zone.sectors = omega arith in
    let counted : first_block track + sector ≡ block =
    ap (λ (x : ℕ). x + sector) lies.first ∙ counted_from zone.first_track zone.first_block zone.sectors block some starts in
    sym (ap pair_at (sym counted) ∙ pair_at-counted track sector (omega arith) lies.within (subst (λ (n : ℕ). sector < n) lies.sectors held))

-- a pair that passes the test is that pair
is_pair-shows : (t s a b : ℕ) → is_pair t s (a, b) ≡ true → (a ≡ t) × (b ≡ s)
is_pair-shows t s a b h = grind (arith, nat_tests)

-- a pair that has a block is at that block
pub block_of-some : (t s block : ℕ) → block_of t s ≡ Some block → (block < 768) × (pair_at block ≡ (t, s))
unfolding block_of
block_of-some t s block e =
    let found = position-Some (is_pair t s) pairs block (0, 0) e in
    let here = is_pair-shows t s (get_or pairs block (0, 0)).0 (get_or pairs block (0, 0)).1 found.1 in
    (subst (λ (n : ℕ). block < n) length-pairs found.0, sym (at_pairs block) ∙ ap₂ (λ (a b : ℕ). (a, b)) here.0 here.1)
