use Rattle.std.proofs.Common.{ℕ, ◌+◌, length, sym, ap, ◌∙◌}
use Rattle.d64_image.specs.Block.{first_block}
use Rattle.d64_image.specs.Image.{tracks_of}
use Rattle.d64_image.proofs.Zones.{all_blocks}
use Rattle.d64_image.proofs.TracksInTurn.{next_track, all_tracks}
use Rattle.d64_map.specs.Map.{free_below, free_blocks}
use Rattle.d64_map.proofs.block_map.free_set.Goals as goal

pub loop-track-init : goal.loop-track-init
unfolding first_block
loop-track-init c = record {
  split = sym (c.into_iter-track-iterator.ensures.into_iter_gives ∙ c.each_track-track-items.ensures.value);
  free = c.empty-free.ensures.value;
}

pub add_free_on-requires : goal.add_free_on-requires
add_free_on-requires c =
    let next = next_track (tracks_of (length c.args.image.now)) c.in-Some.track c.loop-track.yielded c.next.new.self c.loop-track.track-iterator c.loop-track.invariant.split c.in-Some.ensures.steps in
    c.loop-track.invariant.free ∙ ap (λ (track : ℕ). free_below c.args.image.now (first_block track)) (sym next.is)

pub loop-track-preserved : goal.loop-track-preserved
loop-track-preserved c =
    let next = next_track (tracks_of (length c.args.image.now)) c.in-Some.track c.loop-track.yielded c.next.new.self c.loop-track.track-iterator c.loop-track.invariant.split c.in-Some.ensures.steps in
    record {
      split = next.split;
      free = c.add_free_on.ensures ∙ ap (λ (n : ℕ). free_below c.args.image.now (first_block (n + 1))) (sym next.more);
    }

pub returns : goal.returns
unfolding free_blocks
returns c =
    let size = c.each_track-track-items.ensures.size in
    let count : ℕ = length c.args.image.now in
    let all = all_tracks (tracks_of (length c.args.image.now)) c.loop-track.yielded c.loop-track.track-iterator c.loop-track.invariant.split c.in-None.ensures.steps.0 in
    c.loop-track.invariant.free ∙ ap (free_below c.args.image.now) (ap (λ (n : ℕ). first_block (n + 1)) all ∙ all_blocks count size)
