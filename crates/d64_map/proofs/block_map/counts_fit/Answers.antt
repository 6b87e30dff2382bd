use Rattle.std.proofs.Common.{◌≡◌, ℕ, length, sym, ◌∙◌, subst, inl, inr, arith}
use Rattle.std.proofs.lemmas.Bool.{cases_lt}
use Rattle.d64_image.specs.Image.{tracks_of}
use Rattle.d64_image.proofs.TracksInTurn.{next_track}
use Rattle.d64_map.specs.Map.{count_of, free_blocks}
use Rattle.d64_map.specs.Track.{members_on}
use Rattle.d64_map.proofs.block_map.counts_fit.Goals as goal

pub free_count-requires : goal.free_count-requires
free_count-requires c =
    let next = next_track (tracks_of (length c.args.image.now)) c.in-Some.track c.loop-track.yielded c.next.new.self c.loop-track.track-iterator c.loop-track.invariant.split c.in-Some.ensures.steps in
    record { track = (omega (arith, next.is), next.within) }

pub free_on-requires : goal.free_on-requires
free_on-requires c =
    let next = next_track (tracks_of (length c.args.image.now)) c.in-Some.track c.loop-track.yielded c.next.new.self c.loop-track.track-iterator c.loop-track.invariant.split c.in-Some.ensures.steps in
    record { track = (omega (arith, next.is), next.within) }

pub returns-then-free_count-free_on : goal.returns-then-free_count-free_on
returns-then-free_count-free_on c =
    let next = next_track (tracks_of (length c.args.image.now)) c.in-Some.track c.loop-track.yielded c.next.new.self c.loop-track.track-iterator c.loop-track.invariant.split c.in-Some.ensures.steps in (
      λ e. absurd (cc),
      λ fit. absurd (c.if-free_count-free_on.true (c.free_count.ensures.count ∙ fit.each c.in-Some.track (omega (arith, next.is)) next.within ∙ sym c.free_on.ensures.free)),
    )

pub loop-track-preserved : goal.loop-track-preserved
loop-track-preserved c =
    let image = c.args.image.now in
    let now = c.in-Some.track in
    let next = next_track (tracks_of (length c.args.image.now)) c.in-Some.track c.loop-track.yielded c.next.new.self c.loop-track.track-iterator c.loop-track.invariant.split c.in-Some.ensures.steps in
    record {
      split = next.split;
      fit = λ track from to. elim (cases_lt track now) [
        | inl before ↦ c.loop-track.invariant.fit track from (omega (arith, before, next.is))
        | inr past ↦
            let same : now ≡ track = omega (arith, past, to, next.more) in
            subst (λ (t : ℕ). count_of image t ≡ members_on (free_blocks image) t) same (sym c.free_count.ensures.count ∙ c.if-free_count-free_on.false ∙ c.free_on.ensures.free)
      ];
    }
