use Rattle.std.proofs.Common.{◌≡◌, ℕ, length, List, get_or, arith, refl, sym, ap, ◌∙◌, subst, inl, inr}
use Rattle.std.proofs.lemmas.Bool.{cases_lt}
use Rattle.std.proofs.lemmas.Result.{on_ok_weaker}
use Rattle.d64_image.specs.Image.{tracks_of, sector_at, with_sector}
use Rattle.d64_image.proofs.Sizes.{size_least}
use Rattle.d64_image.proofs.TracksInTurn.{next_track, all_tracks}
use Rattle.d64_map.specs.Map.{map_block, IsOfTrack, with_map, free_blocks, CountsFit}
use Rattle.d64_map.proofs.Entries.{entry_apart, has_tracks, entry_at, no_entry}
use Rattle.d64_map.proofs.Maps.{map_for-is, free_blocks-with_map, counts-with_map}
use Rattle.d64_map.proofs.block_map.put_map.Goals as goal

-- what is copied first is the map's block
pub loop-track-init : goal.loop-track-init
loop-track-init c = record {
  split = sym (c.into_iter-track-iterator.ensures.into_iter_gives ∙ c.each_track-track-items.ensures.value);
  long = c.map_of.ensures.block.0;
  written = λ track k l h of. absurd (omega arith);
  others = λ k none. refl;
}

-- a track's entry is written, and the entries before it stay
pub loop-track-preserved : goal.loop-track-preserved
loop-track-preserved c =
    let now = c.in-Some.track in
    let next = next_track (tracks_of (length c.args.image.now)) c.in-Some.track c.loop-track.yielded c.next.new.self c.loop-track.track-iterator c.loop-track.invariant.split c.in-Some.ensures.steps in
    let entry = c.put_entry.ensures.entry in
    let others = c.put_entry.ensures.others in
    record {
      split = next.split;
      long = c.put_entry.array_long;
      written = λ track k l h of. elim (cases_lt track now) [
        | inl low ↦
            others k (λ mine. let apart = entry_apart track now low in let a = of.1 in let b = mine.0 in omega arith)
            ∙ c.loop-track.invariant.written track k l (omega (arith, low, next.is)) of
        | inr past ↦ let same : track ≡ now = omega (arith, past, h, next.more) in entry k (subst (λ (t : ℕ). IsOfTrack t k) same of)
      ];
      others = λ k none.
          others k (λ mine. none now (omega (arith, next.is)) (omega (arith, next.more)) mine)
          ∙ c.loop-track.invariant.others k (λ track l h of. none track l (omega (arith, h, next.is, next.more)) of);
    }

-- the image has the map's block
pub write-requires : goal.write-requires
write-requires c =
    let least = size_least (length c.args.image.now) c.each_track-track-items.ensures.size in
    let e = c.map_block.ensures in
    omega arith

pub returns-clause-written : goal.returns-clause-written
unfolding with_map
returns-clause-written c =
    let image = c.args.image.now in
    let tracks : ℕ = tracks_of (length image) in
    let has = has_tracks (length image) c.each_track-track-items.ensures.size in
    let all = all_tracks (tracks_of (length c.args.image.now)) c.loop-track.yielded c.loop-track.track-iterator c.loop-track.invariant.split c.in-None.ensures.steps.0 in
    on_ok_weaker c.write.result
    (λ written.
    written
    ∙ ap (λ (b : ℕ). with_sector image b c.loop-track.map) c.map_block.ensures
    ∙ ap (with_sector image map_block) (map_for-is tracks (sector_at image map_block) c.loop-track.map c.args.free.now c.loop-track.invariant.long
    (λ k inside. let at = entry_at tracks k has inside in let w = at.within in c.loop-track.invariant.written at.track k at.from_one (omega (arith, w, all)) at.of)
    (λ k outside.
    c.loop-track.invariant.others k (λ track l h of. no_entry tracks k has outside track l (omega (arith, h, all)) of)
    ∙ ap (λ (xs : List ℕ). get_or xs k 0) c.map_of.ensures.value)))
    c.write.ensures.written

pub returns-clause-free : goal.returns-clause-free
returns-clause-free c =
    on_ok_weaker c.write.result
    (λ written. ap free_blocks written ∙ free_blocks-with_map c.args.image.now c.args.free.now c.each_track-track-items.ensures.size c.requires.members)
    (returns-clause-written c)

pub returns-clause-counts : goal.returns-clause-counts
returns-clause-counts c =
    on_ok_weaker c.write.result
    (λ written. subst CountsFit (sym written) (counts-with_map c.args.image.now c.args.free.now c.each_track-track-items.ensures.size c.requires.members))
    (returns-clause-written c)
