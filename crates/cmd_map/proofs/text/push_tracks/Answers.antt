use Rattle.std.proofs.Common.{ℕ, List, ◌++◌, length, ap, ◌∙◌}
use Rattle.std.specs.List.{flat_map, range_with_len}
use Rattle.d64_image.specs.Image.{tracks_of}
use Rattle.cmd_map.specs.MapText.{track_line, track_lines}
use Rattle.cmd_map.proofs.text.push_tracks.Goals as goal

pub loop-track-init : goal.loop-track-init
unfolding track_lines
loop-track-init c =
    let lines : List ℕ → List ℕ = flat_map (track_line c.args.inspection.now) in
    ap (λ (tracks : List ℕ). c.args.out.now.items ++ lines tracks)
    (c.into_iter-track-iterator.ensures.into_iter_gives ∙ c.each_track-track-items.ensures.value
    ∙ ap (λ (image : List (List ℕ)). range_with_len 1 (tracks_of (length image))) c.image.ensures)
