use Rattle.std.proofs.Common.{ℕ, List, sym, ap, ◌∙◌}
use Rattle.std.specs.List.{flat_map, find}
use Rattle.std.specs.FinSet as set
use Rattle.d64_image.specs.Block.{sectors_on, pair_at}
use Rattle.d64_map.specs.Track.{blocks_on}
use Rattle.d64_map.specs.Search.{rotated_list, sector_after, tracks_after}
use Rattle.d64_map.proofs.Searching.{found_first, found_second, not_found, next_order-directory, next_order-other, tracks_after-is, around_is}
use Rattle.d64_map.proofs.search.pick_next.Goals as goal

-- the blocks of the last block's own track, in the order of the search
abbrev own : ℕ → List ℕ
own last = rotated_list (sector_after 10 (sectors_on (pair_at last).0) (pair_at last).1) (blocks_on (pair_at last).0)

-- the blocks of all other tracks
abbrev others : ℕ → List ℕ
others last = flat_map blocks_on (tracks_after (pair_at last).0)

pub returns-then-track-eq-DIRECTORY_TRACK : goal.returns-then-track-eq-DIRECTORY_TRACK
returns-then-track-eq-DIRECTORY_TRACK c =
    c.pick_first.ensures ∙ ap (find (set.contains c.args.free.now)) (sym (next_order-directory c.args.last (sym c.track.ensures.pair ∙ c.if-track-eq-DIRECTORY_TRACK.true)))

pub returns-in-Some : goal.returns-in-Some
returns-in-Some c =
    let p = set.contains c.args.free.now in
    let here = around_is c.args.last c.sector_after-start.result c.sector_count.result c.sector.result c.track_no-track.result c.sector_after-start.ensures.after c.sector_count.ensures.sectors c.sector.ensures.pair c.track_no-track.ensures in
    sym (ap (find p) (next_order-other c.args.last (λ e. c.if-track-eq-DIRECTORY_TRACK.false (c.track.ensures.pair ∙ e)))
    ∙ found_first p (own c.args.last) (others c.args.last) c.in-Some.block (ap (find p) (sym here) ∙ sym c.in-Some.ensures))

pub returns : goal.returns
returns c =
    let p = set.contains c.args.free.now in
    let here = around_is c.args.last c.sector_after-start.result c.sector_count.result c.sector.result c.track_no-track.result c.sector_after-start.ensures.after c.sector_count.ensures.sectors c.sector.ensures.pair c.track_no-track.ensures in
    let beyond = tracks_after-is c.of-side.result.0 (pair_at c.args.last).0 c.of-side.result.1 (c.of-side.ensures.track ∙ c.track_no-track.ensures) c.of-side.ensures.distance.0 c.of-side.ensures.distance.1 in
    c.pick_beyond.ensures
    ∙ ap (λ (ts : List ℕ). find p (flat_map blocks_on ts)) (sym beyond)
    ∙ sym (ap (find p) (next_order-other c.args.last (λ e. c.if-track-eq-DIRECTORY_TRACK.false (c.track.ensures.pair ∙ e)))
    ∙ found_second p (own c.args.last) (others c.args.last) (ap (find p) (sym here) ∙ sym (sym (not_found c.pick_around.result c.in_default.not-Some) ∙ c.pick_around.ensures)))
