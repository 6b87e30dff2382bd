use Rattle.std.proofs.Common.{ℕ, ◌==◌, ◌++◌, not, List, append-nil, length, sym, ap, ◌∙◌, arith}
use Rattle.std.specs.List.{sum_by, filter}
use Rattle.d64_image.specs.Image.{tracks_of}
use Rattle.d64_image.proofs.TracksInTurn.{next_track}
use Rattle.d64_map.specs.Map.{count_of, blocks_free}
use Rattle.d64_map.proofs.block_map.blocks_free.Goals as goal

pub free_count-requires : goal.free_count-requires
free_count-requires c =
    let next = next_track (tracks_of (length c.args.image.now)) c.in-Some.track c.loop-track.yielded c.next.new.self c.loop-track.track-iterator c.loop-track.invariant.split c.in-Some.ensures.steps in
    record { track = (omega (arith, next.is), next.within) }

pub returns : goal.returns
unfolding blocks_free
returns c =
    let done = c.loop-track.yielded in
    let all = sym (c.loop-track.invariant.split ∙ ap (λ (left : List ℕ). done ++ left) c.in-None.ensures.steps.0 ∙ append-nil done) in
    c.loop-track.invariant.summed ∙ ap (λ (tracks : List ℕ). sum_by (count_of c.args.image.now) (filter (λ track. not (track == 18)) tracks)) all
