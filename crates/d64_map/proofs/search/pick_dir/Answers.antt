use Rattle.std.proofs.Common.{ℕ, sym, ap, ◌∙◌}
use Rattle.std.specs.List.{find}
use Rattle.std.specs.FinSet as set
use Rattle.d64_image.specs.Block.{sectors_on}
use Rattle.d64_map.specs.Track.{blocks_on}
use Rattle.d64_map.specs.Search.{rotated_list, sector_after}
use Rattle.d64_map.proofs.Searching.{dir_order-directory, dir_order-other}
use Rattle.d64_map.proofs.search.pick_dir.Goals as goal

pub returns-then-track-eq-DIRECTORY_TRACK : goal.returns-then-track-eq-DIRECTORY_TRACK
returns-then-track-eq-DIRECTORY_TRACK c =
    let p = set.contains c.args.free.now in
    let track = c.directory_track-track.ensures in
    c.pick_around.ensures
    ∙ ap (λ (t : ℕ). find p (rotated_list c.sector_after-start.result (blocks_on t))) track
    ∙ ap (λ (n : ℕ). find p (rotated_list n (blocks_on 18))) (c.sector_after-start.ensures.after
    ∙ ap (λ (n : ℕ). sector_after 3 n c.sector.result) (c.sector_count.ensures.sectors ∙ ap sectors_on track)
    ∙ ap (sector_after 3 (sectors_on 18)) c.sector.ensures.pair)
    ∙ ap (find p) (sym (dir_order-directory c.args.last (sym c.track.ensures.pair ∙ c.if-track-eq-DIRECTORY_TRACK.true)))

pub returns-else-track-eq-DIRECTORY_TRACK : goal.returns-else-track-eq-DIRECTORY_TRACK
returns-else-track-eq-DIRECTORY_TRACK c =
    c.pick_on.ensures
    ∙ ap (λ (t : ℕ). find (set.contains c.args.free.now) (blocks_on t)) c.directory_track-track.ensures
    ∙ ap (find (set.contains c.args.free.now)) (sym (dir_order-other c.args.last (λ e. c.if-track-eq-DIRECTORY_TRACK.false (c.track.ensures.pair ∙ e))))
