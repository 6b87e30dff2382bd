use Rattle.std.proofs.Common.{◌≡◌, ℕ, ◌+◌, ◌-◌, ◌++◌, Bool, List, sym, ap, ◌∙◌, arith}
use Rattle.std.specs.List.{range_with_len, flat_map, find}
use Rattle.std.specs.FinSet as set
use Rattle.d64_map.specs.Track.{blocks_on}
use Rattle.d64_map.proofs.Searching.{found_first, found_second, first_here, first_later, not_found}
use Rattle.d64_map.proofs.search.pick_outward.Goals as goal

-- the blocks of the two tracks at a distance
abbrev both : ℕ → List ℕ
both distance = blocks_on (18 - distance) ++ blocks_on (18 + distance)

-- the blocks of the same track
on : (p : ℕ → Bool) {track at : ℕ} → track ≡ at → find p (blocks_on track) ≡ find p (blocks_on at)
on p same = ap (λ (t : ℕ). find p (blocks_on t)) same

pub returns-in-Some : goal.returns-in-Some
returns-in-Some c =
    let p = set.contains c.args.free.now in
    let d = c.loop-distance.distance in
    sym (c.loop-distance.invariant
    ∙ first_here p both d (18 - d) c.in-Some.block (omega arith) (found_first p (blocks_on (18 - d)) (blocks_on (18 + d)) c.in-Some.block (sym (c.in-Some.ensures ∙ on p c.track.ensures))))

pub returns-in-Some-pick_on : goal.returns-in-Some-pick_on
returns-in-Some-pick_on c =
    let p = set.contains c.args.free.now in
    let d = c.loop-distance.distance in
    sym (c.loop-distance.invariant
    ∙ first_here p both d (18 - d) c.in-Some-pick_on.block (omega arith)
    (found_second p (blocks_on (18 - d)) (blocks_on (18 + d)) (sym (sym (not_found c.pick_on.result c.in_default.not-Some) ∙ c.pick_on.ensures ∙ on p c.track.ensures)) ∙ sym (c.in-Some-pick_on.ensures ∙ on p c.track-in-loop-distance.ensures)))

pub loop-distance-preserved : goal.loop-distance-preserved
loop-distance-preserved c =
    let p = set.contains c.args.free.now in
    let d = c.loop-distance.distance in
    let n : 18 - d - 1 ≡ 18 - (d + 1) = omega arith in
    c.loop-distance.invariant
    ∙ first_later p both d (18 - d) (omega arith) (found_second p (blocks_on (18 - d)) (blocks_on (18 + d)) (sym (sym (not_found c.pick_on.result c.in_default.not-Some) ∙ c.pick_on.ensures ∙ on p c.track.ensures)) ∙ sym (sym (not_found c.pick_on-in-loop-distance.result c.in_default-pick_on.not-Some) ∙ c.pick_on-in-loop-distance.ensures ∙ on p c.track-in-loop-distance.ensures))
    ∙ ap (λ (k : ℕ). find p (flat_map both (range_with_len (d + 1) k))) n
