use Rattle.std.proofs.Common.{◌≡◌, ℕ, ◌+◌, ◌-◌, ◌++◌, Bool, List, sym, ap, ◌∙◌, arith, rules}
use Rattle.std.specs.List.{find, flat_map}
use Rattle.std.specs.FinSet as set
use Rattle.d64_map.specs.Track.{blocks_on}
use Rattle.d64_map.specs.Side.{other_side, reach, tracks_along}
use Rattle.d64_map.specs.declared.search.Side.{Side}
use Rattle.d64_map.proofs.Searching.{beyond, found_first, found_second, found_either, not_found}
use Rattle.d64_map.proofs.search.pick_beyond.Goals as goal

-- the blocks of the three parts

abbrev first : Side → ℕ → List ℕ
first side distance = flat_map blocks_on (tracks_along side (distance + 1) (reach side + 1 - (distance + 1)))

abbrev second : Side → List ℕ
second side = flat_map blocks_on (tracks_along side 1 (reach side))

abbrev third : Side → ℕ → List ℕ
third side distance = flat_map blocks_on (tracks_along side 1 (distance - 1))

-- the search on a side ends at its last track
on_side : (p : ℕ → Bool) (side : Side) (start reached : ℕ) → reached ≡ reach side
    → find p (flat_map blocks_on (tracks_along side start (reached + 1 - start))) ≡ find p (flat_map blocks_on (tracks_along side start (reach side + 1 - start)))
on_side p side start reached e = ap (λ (n : ℕ). find p (flat_map blocks_on (tracks_along side start (n + 1 - start)))) e

-- all of the other side
other_side-whole : (p : ℕ → Bool) (side other : Side) (reached : ℕ) → other ≡ other_side side → reached ≡ reach other
    → find p (flat_map blocks_on (tracks_along other 1 (reached + 1 - 1))) ≡ find p (second (other_side side))
other_side-whole p side other reached e f =
    let n : reached + 1 - 1 ≡ reach other = omega arith in
    ap (λ (k : ℕ). find p (flat_map blocks_on (tracks_along other 1 k))) n ∙ ap (λ (s : Side). find p (second s)) e

pub returns-in-Some : goal.returns-in-Some
returns-in-Some c =
    let p = set.contains c.args.free.now in
    let side = c.args.side in
    let distance = c.args.distance in
    sym (ap (find p) (beyond side distance)
    ∙ found_first p (first side distance ++ second (other_side side)) (third side distance) c.in-Some.block
    (found_first p (first side distance) (second (other_side side)) c.in-Some.block
    (sym (c.in-Some.ensures ∙ on_side p side (distance + 1) c.reach.result c.reach.ensures.reach))))

pub returns : goal.returns
returns c =
    let p = set.contains c.args.free.now in
    let side = c.args.side in
    let distance = c.args.distance in
    found_either p (first side distance ++ second (other_side side)) (third side distance) c.pick_along-2.result c.or_else.result
    (c.pick_along-2.ensures
    ∙ other_side-whole p side c.other-other.result c.reach-2.result c.other-other.ensures c.reach-2.ensures.reach
    ∙ sym (found_second p (first side distance) (second (other_side side)) (sym (sym (not_found c.pick_along.result c.in_default.not-Some) ∙ c.pick_along.ensures ∙ on_side p side (distance + 1) c.reach.result c.reach.ensures.reach))))
    (λ later. search rules)
    c.or_else.ensures
    ∙ sym (ap (find p) (beyond side distance))
