-- a search along lists, one after another
use Rattle.std.proofs.Common.{◌≡◌, ℕ, zero, suc, ◌+◌, ◌-◌, ◌<◌, ◌≤◌, Bool, true, false, cond, ltb, Option, Some, None, List, ◌∷◌, ◌++◌, map, take, drop, refl, sym, ap, ◌∙◌, arith}
use Rattle.std.specs.Prelude.{MatchOption}
use Rattle.std.specs.List.{range_with_len, flat_map, find}
use Rattle.std.specs.Option.{option_or}
use Rattle.std.proofs.lemmas.Bool.{eq-eqb, ne_eqb, lt-ltb, le-ltb, cond-true, cond-false}
use Rattle.std.proofs.lemmas.List.{take-map, drop-map}
use Rattle.std.proofs.lemmas.List.Concat.{flat_map-append}
use Rattle.std.proofs.lemmas.List.Folds.{find-append, flat_map-map}
use Rattle.d64_image.specs.Block.{sectors_on, first_block, pair_at}
use Rattle.d64_map.specs.Track.{blocks_on}
use Rattle.d64_map.specs.Search.{lower_tracks, upper_tracks, first_order, sector_after, rotated_list, tracks_after, next_order, dir_order}
use Rattle.d64_map.specs.Side.{track_at, other_side, reach, tracks_along, tracks_beyond}
use Rattle.d64_map.specs.declared.search.Side.{Side}
use Rattle.d64_map.specs.declared.search.Side.TheVariants.{Lower, Upper}

-- the first of a range that passes, one step on
pub find_here : (p : ℕ → Bool) (a n : ℕ) → 0 < n → p a ≡ true → find p (range_with_len a n) ≡ Some a
find_here p a zero h passes = absurd (omega arith)
find_here p a (suc n) h passes = ap (λ (b : Bool). cond b (Some a) (find p (range_with_len (a + 1) n))) passes

pub find_later : (p : ℕ → Bool) (a n : ℕ) → 0 < n → p a ≡ false → find p (range_with_len a n) ≡ find p (range_with_len (a + 1) (n - 1))
find_later p a zero h fails = absurd (omega arith)
find_later p a (suc n) h fails =
    let e : n ≡ suc n - 1 = omega arith in
    ap (λ (b : Bool). cond b (Some a) (find p (range_with_len (a + 1) n))) fails ∙ ap (λ (k : ℕ). find p (range_with_len (a + 1) k)) e

-- the same along the lists of a range
pub first_here : (p : ℕ → Bool) (f : ℕ → List ℕ) (a n x : ℕ) → 0 < n → find p (f a) ≡ Some x → find p (flat_map f (range_with_len a n)) ≡ Some x
first_here p f a zero x h here = absurd (omega arith)
first_here p f a (suc n) x h here =
    find-append p (f a) (flat_map f (range_with_len (a + 1) n)) ∙ ap (λ (o : Option ℕ). option_or o (find p (flat_map f (range_with_len (a + 1) n)))) here

pub first_later : (p : ℕ → Bool) (f : ℕ → List ℕ) (a n : ℕ) → 0 < n → find p (f a) ≡ None
    → find p (flat_map f (range_with_len a n)) ≡ find p (flat_map f (range_with_len (a + 1) (n - 1)))
first_later p f a zero h none = absurd (omega arith)
first_later p f a (suc n) h none =
    let e : n ≡ suc n - 1 = omega arith in
    find-append p (f a) (flat_map f (range_with_len (a + 1) n))
    ∙ ap (λ (o : Option ℕ). option_or o (find p (flat_map f (range_with_len (a + 1) n)))) none
    ∙ ap (λ (k : ℕ). find p (flat_map f (range_with_len (a + 1) k))) e

-- the first of two lists that passes
pub found_first : (p : ℕ → Bool) (xs ys : List ℕ) (x : ℕ) → find p xs ≡ Some x → find p (xs ++ ys) ≡ Some x
found_first p xs ys x here = find-append p xs ys ∙ ap (λ (o : Option ℕ). option_or o (find p ys)) here

pub found_second : (p : ℕ → Bool) (xs ys : List ℕ) → find p xs ≡ None → find p (xs ++ ys) ≡ find p ys
found_second p xs ys none = find-append p xs ys ∙ ap (λ (o : Option ℕ). option_or o (find p ys)) none

-- a search of one list and then, if nothing is found, of another
pub found_either : (p : ℕ → Bool) (xs ys : List ℕ) {Second : Type 0} (first result : Option ℕ) → first ≡ find p xs → (Second → result ≡ find p ys) → MatchOption first Second (λ x. result ≡ Some x)
    → result ≡ find p (xs ++ ys)
found_either p xs ys None result here later second = later second ∙ sym (found_second p xs ys (sym here))
found_either p xs ys (Some x) result here later is = is ∙ sym (found_first p xs ys x (sym here))

-- what is no block is None
pub not_found : (found : Option ℕ) → ((x : ℕ) → found ≡ Some x → ⊥) → found ≡ None
not_found None none = refl
not_found (Some x) none = absurd (none x refl)

-- a part of a range
pub drop-range : (a n k : ℕ) → drop k (range_with_len a n) ≡ range_with_len (a + k) (n - k)
drop-range a n zero = let e : a + 0 ≡ a = omega arith in let f : n - 0 ≡ n = omega arith in sym (ap (λ (x : ℕ). range_with_len x (n - 0)) e ∙ ap (range_with_len a) f)
drop-range a zero (suc k) = let f : 0 - suc k ≡ 0 = omega arith in sym (ap (range_with_len (a + suc k)) f)
drop-range a (suc n) (suc k) =
    let e : a + 1 + k ≡ a + suc k = omega arith in
    let f : n - k ≡ suc n - suc k = omega arith in
    drop-range (a + 1) n k ∙ ap (λ (x : ℕ). range_with_len x (n - k)) e ∙ ap (range_with_len (a + suc k)) f

pub take-range : (a n k : ℕ) → k ≤ n → take k (range_with_len a n) ≡ range_with_len a k
take-range a n zero h = refl
take-range a zero (suc k) h = absurd (omega arith)
take-range a (suc n) (suc k) h = ap (λ (xs : List ℕ). a ∷ xs) (take-range (a + 1) n k (omega arith))

-- the blocks of a track from a sector on, and those before it
pub drop_on : (track start : ℕ) → drop start (blocks_on track) ≡ range_with_len (first_block track + start) (sectors_on track - start)
unfolding blocks_on
drop_on track start = drop-range (first_block track) (sectors_on track) start

pub take_on : (track start : ℕ) → start ≤ sectors_on track → take start (blocks_on track) ≡ range_with_len (first_block track) start
unfolding blocks_on
take_on track start h = take-range (first_block track) (sectors_on track) start h

pub all_on : (track : ℕ) → blocks_on track ≡ range_with_len (first_block track) (sectors_on track)
unfolding blocks_on
all_on track = refl

-- a sector whose block passes, and one whose block fails
pub sector_here : (p : ℕ → Bool) (track sector block end : ℕ) → sector < end → block ≡ first_block track + sector → p block ≡ true
    → Some block ≡ find p (range_with_len (first_block track + sector) (end - sector))
sector_here p track sector block end more is passes =
    ap (λ (b : ℕ). Some b) is ∙ sym (find_here p (first_block track + sector) (end - sector) (omega arith) (ap p (sym is) ∙ passes))

pub sector_later : (p : ℕ → Bool) (track sector block end : ℕ) → sector < end → block ≡ first_block track + sector → p block ≡ false
    → find p (range_with_len (first_block track + sector) (end - sector)) ≡ find p (range_with_len (first_block track + (sector + 1)) (end - (sector + 1)))
sector_later p track sector block end more is fails =
    let g : first_block track + sector + 1 ≡ first_block track + (sector + 1) = omega arith in
    let n : end - sector - 1 ≡ end - (sector + 1) = omega arith in
    find_later p (first_block track + sector) (end - sector) (omega arith) (ap p (sym is) ∙ fails)
    ∙ ap (λ (x : ℕ). find p (range_with_len x (end - sector - 1))) g ∙ ap (λ (k : ℕ). find p (range_with_len (first_block track + (sector + 1)) k)) n

-- the blocks of tracks along a side
along : (side : Side) (from count : ℕ) → flat_map blocks_on (tracks_along side from count) ≡ flat_map (λ distance. blocks_on (track_at side distance)) (range_with_len from count)
unfolding tracks_along
along side from count = flat_map-map blocks_on (track_at side) (range_with_len from count)

pub along_here : (p : ℕ → Bool) (side : Side) (distance end block : ℕ) → distance < end → Some block ≡ find p (blocks_on (track_at side distance))
    → Some block ≡ find p (flat_map blocks_on (tracks_along side distance (end - distance)))
along_here p side distance end block more here =
    sym (ap (find p) (along side distance (end - distance)) ∙ first_here p (λ d. blocks_on (track_at side d)) distance (end - distance) block (omega arith) (sym here))

pub along_later : (p : ℕ → Bool) (side : Side) (distance end : ℕ) → distance < end → None ≡ find p (blocks_on (track_at side distance))
    → find p (flat_map blocks_on (tracks_along side distance (end - distance))) ≡ find p (flat_map blocks_on (tracks_along side (distance + 1) (end - (distance + 1))))
along_later p side distance end more none =
    let n : end - distance - 1 ≡ end - (distance + 1) = omega arith in
    ap (find p) (along side distance (end - distance)) ∙ first_later p (λ d. blocks_on (track_at side d)) distance (end - distance) (omega arith) (sym none)
    ∙ ap (find p) (sym (along side (distance + 1) (end - distance - 1)))
    ∙ ap (λ (k : ℕ). find p (flat_map blocks_on (tracks_along side (distance + 1) k))) n

pub along_none : (p : ℕ → Bool) (side : Side) (distance end : ℕ) → end ≤ distance → None ≡ find p (flat_map blocks_on (tracks_along side distance (end - distance)))
unfolding tracks_along
along_none p side distance end past =
    let n : end - distance ≡ 0 = omega arith in sym (ap (λ (k : ℕ). find p (flat_map blocks_on (map (track_at side) (range_with_len distance k)))) n)

-- the blocks beyond a track of a side
pub beyond : (side : Side) (distance : ℕ) → flat_map blocks_on (tracks_beyond side distance)
    ≡ flat_map blocks_on (tracks_along side (distance + 1) (reach side + 1 - (distance + 1))) ++ flat_map blocks_on (tracks_along (other_side side) 1 (reach (other_side side))) ++ flat_map blocks_on (tracks_along side 1 (distance - 1))
beyond side distance =
    let n : reach side - distance ≡ reach side + 1 - (distance + 1) = omega arith in
    let a = tracks_along side (distance + 1) (reach side - distance) in
    let b = tracks_along (other_side side) 1 (reach (other_side side)) in
    let c = tracks_along side 1 (distance - 1) in
    flat_map-append blocks_on (a ++ b) c ∙ ap (λ (xs : List ℕ). xs ++ flat_map blocks_on c) (flat_map-append blocks_on a b)
    ∙ ap (λ (k : ℕ). flat_map blocks_on (tracks_along side (distance + 1) k) ++ flat_map blocks_on b ++ flat_map blocks_on c) n

part_along : (side : Side) (count distance : ℕ) → drop distance (tracks_along side 1 count) ≡ tracks_along side (distance + 1) (count - distance)
unfolding tracks_along
part_along side count distance =
    let e : 1 + distance ≡ distance + 1 = omega arith in
    drop-map (track_at side) distance (range_with_len 1 count) ∙ ap (map (track_at side)) (drop-range 1 count distance ∙ ap (λ (a : ℕ). range_with_len a (count - distance)) e)

front_along : (side : Side) (all count : ℕ) → count ≤ all → take count (tracks_along side 1 all) ≡ tracks_along side 1 count
unfolding tracks_along
front_along side all count h = take-map (track_at side) count (range_with_len 1 all) ∙ ap (map (track_at side)) (take-range 1 all count h)

lower_is : lower_tracks ≡ tracks_along Lower 1 17
unfolding lower_tracks tracks_along
lower_is = refl

upper_is : upper_tracks ≡ tracks_along Upper 1 22
unfolding upper_tracks tracks_along
upper_is = refl

-- the tracks after one are those beyond it on its side
pub tracks_after-is : (side : Side) (track distance : ℕ) → track_at side distance ≡ track → 1 ≤ distance → distance ≤ reach side → tracks_after track ≡ tracks_beyond side distance
unfolding tracks_after
tracks_after-is Lower track distance e one last =
    let a : 18 - track ≡ distance = omega arith in
    let b : 17 - track ≡ distance - 1 = omega arith in
    cond-true (ltb track 18) _ _ (lt-ltb track 18 (omega arith))
    ∙ ap (λ (k : ℕ). drop k lower_tracks ++ upper_tracks ++ take (17 - track) lower_tracks) a
    ∙ ap (λ (k : ℕ). drop distance lower_tracks ++ upper_tracks ++ take k lower_tracks) b
    ∙ ap (λ (xs : List ℕ). drop distance xs ++ upper_tracks ++ take (distance - 1) xs) lower_is
    ∙ ap (λ (xs : List ℕ). drop distance (tracks_along Lower 1 17) ++ xs ++ take (distance - 1) (tracks_along Lower 1 17)) upper_is
    ∙ ap (λ (xs : List ℕ). xs ++ tracks_along Upper 1 22 ++ take (distance - 1) (tracks_along Lower 1 17)) (part_along Lower 17 distance)
    ∙ ap (λ (xs : List ℕ). tracks_along Lower (distance + 1) (17 - distance) ++ tracks_along Upper 1 22 ++ xs) (front_along Lower 17 (distance - 1) (omega arith))
tracks_after-is Upper track distance e one last =
    let a : track - 18 ≡ distance = omega arith in
    let b : track - 19 ≡ distance - 1 = omega arith in
    cond-false (ltb track 18) _ _ (le-ltb track 18 (omega arith))
    ∙ ap (λ (k : ℕ). drop k upper_tracks ++ lower_tracks ++ take (track - 19) upper_tracks) a
    ∙ ap (λ (k : ℕ). drop distance upper_tracks ++ lower_tracks ++ take k upper_tracks) b
    ∙ ap (λ (xs : List ℕ). drop distance xs ++ lower_tracks ++ take (distance - 1) xs) upper_is
    ∙ ap (λ (xs : List ℕ). drop distance (tracks_along Upper 1 22) ++ xs ++ take (distance - 1) (tracks_along Upper 1 22)) lower_is
    ∙ ap (λ (xs : List ℕ). xs ++ tracks_along Lower 1 17 ++ take (distance - 1) (tracks_along Upper 1 22)) (part_along Upper 22 distance)
    ∙ ap (λ (xs : List ℕ). tracks_along Upper (distance + 1) (22 - distance) ++ tracks_along Lower 1 17 ++ xs) (front_along Upper 22 (distance - 1) (omega arith))

-- the orders by the track of the last block
pub next_order-directory : (last : ℕ) → (pair_at last).0 ≡ 18 → next_order last ≡ first_order
unfolding next_order
next_order-directory last e = cond-true _ _ _ (eq-eqb (pair_at last).0 18 e)

pub next_order-other : (last : ℕ) → ((pair_at last).0 ≡ 18 → ⊥)
    → next_order last
    ≡ rotated_list (sector_after 10 (sectors_on (pair_at last).0) (pair_at last).1) (blocks_on (pair_at last).0) ++ flat_map blocks_on (tracks_after (pair_at last).0)
unfolding next_order
next_order-other last e = cond-false _ _ _ (ne_eqb (pair_at last).0 18 e)

pub dir_order-directory : (last : ℕ) → (pair_at last).0 ≡ 18 → dir_order last ≡ rotated_list (sector_after 3 (sectors_on 18) (pair_at last).1) (blocks_on 18)
unfolding dir_order
dir_order-directory last e = cond-true _ _ _ (eq-eqb (pair_at last).0 18 e)

pub dir_order-other : (last : ℕ) → ((pair_at last).0 ≡ 18 → ⊥) → dir_order last ≡ blocks_on 18
unfolding dir_order
dir_order-other last e = cond-false _ _ _ (ne_eqb (pair_at last).0 18 e)

-- the sectors of the last block's track, from the one at which the search goes on
pub around_is : (last start count sector track : ℕ) → start ≡ sector_after 10 count sector → count ≡ sectors_on track → sector ≡ (pair_at last).1 → track ≡ (pair_at last).0
    → rotated_list start (blocks_on track) ≡ rotated_list (sector_after 10 (sectors_on (pair_at last).0) (pair_at last).1) (blocks_on (pair_at last).0)
around_is last start count sector track e f g h =
    ap (λ (n : ℕ). rotated_list n (blocks_on track)) (e ∙ ap (λ (n : ℕ). sector_after 10 n sector) f ∙ ap (sector_after 10 (sectors_on track)) g)
    ∙ ap (λ (t : ℕ). rotated_list (sector_after 10 (sectors_on t) (pair_at last).1) (blocks_on t)) h
