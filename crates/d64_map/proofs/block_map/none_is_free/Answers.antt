use Rattle.std.proofs.Common.{◌≡◌, ℕ, ◌+◌, true, false, length, refl, sym, ap, ◌∙◌, inl, inr, arith}
use Rattle.std.proofs.lemmas.Bool.{cases_lt}
use Rattle.d64_image.specs.Block.{first_block}
use Rattle.d64_image.specs.Image.{tracks_of}
use Rattle.d64_image.proofs.Zones.{all_blocks}
use Rattle.d64_image.proofs.TracksInTurn.{next_track, all_tracks}
use Rattle.d64_map.proofs.FreeBlocks.{contains-free_blocks-past}
use Rattle.d64_map.proofs.block_map.none_is_free.Goals as goal

pub loop-track-init : goal.loop-track-init
unfolding first_block
loop-track-init c = record {
  split = sym (c.into_iter-track-iterator.ensures.into_iter_gives ∙ c.each_track-track-items.ensures.value);
  none = λ block from to. absurd (omega arith);
}

pub none_is_free_on-requires : goal.none_is_free_on-requires
none_is_free_on-requires c =
    let next = next_track (tracks_of (length c.args.image.now)) c.in-Some.track c.loop-track.yielded c.next.new.self c.loop-track.track-iterator c.loop-track.invariant.split c.in-Some.ensures.steps in
    record { track = (omega (arith, next.is), next.within) }

pub returns-then-not-none_is_free_on : goal.returns-then-not-none_is_free_on
returns-then-not-none_is_free_on c = (
  λ e. absurd (cc),
  λ none.
      let known = c.none_is_free_on.ensures.none.1 (λ block from to member. none block member) in
      let f : true ≡ false = sym known ∙ c.if-not-none_is_free_on.true in
      absurd (cc),
)

pub loop-track-preserved : goal.loop-track-preserved
loop-track-preserved c =
    let next = next_track (tracks_of (length c.args.image.now)) c.in-Some.track c.loop-track.yielded c.next.new.self c.loop-track.track-iterator c.loop-track.invariant.split c.in-Some.ensures.steps in
    let here = ap first_block next.is in
    let end = ap (λ (n : ℕ). first_block (n + 1)) next.more in
    record {
      split = next.split;
      none = λ block from to member.
          elim (cases_lt block (first_block c.in-Some.track)) [
            | inl before ↦ c.loop-track.invariant.none block from (omega (arith, before, here)) member
            | inr past ↦ c.none_is_free_on.ensures.none.0 c.if-not-none_is_free_on.false block past (omega (arith, to, end)) member
          ];
    }

pub returns : goal.returns
returns c =
    let image = c.args.image.now in
    let size = c.each_track-track-items.ensures.size in
    let all = all_tracks (tracks_of (length c.args.image.now)) c.loop-track.yielded c.loop-track.track-iterator c.loop-track.invariant.split c.in-None.ensures.steps.0 in
    let last : first_block (length c.loop-track.yielded + 1) ≡ length image = ap (λ (n : ℕ). first_block (n + 1)) all ∙ all_blocks (length image) size in (
      λ known block member. elim (cases_lt block (length image)) [
        | inl within ↦ c.loop-track.invariant.none block (omega arith) (omega (arith, within, last)) member
        | inr past ↦ contains-free_blocks-past image block past
      ],
      λ none. refl,
    )
