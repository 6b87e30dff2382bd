use Rattle.std.proofs.Common.{ℕ, ◌+◌, sym, ap, ◌∙◌}
use Rattle.d64_image.specs.Block.{first_block}
use Rattle.d64_image.specs.Image.{bytes_of as image_bytes}
use Rattle.d64_image.proofs.TracksInTurn.{next_track, all_tracks}
use Rattle.d64_g64.specs.Dump.{first_codes, first_blocks}
use Rattle.d64_g64.proofs.DumpBlocks.{no_codes, no_blocks, first_of_all, last_of_all}
use Rattle.d64_g64.proofs.dump.read_tracks.Goals as goal

pub loop-track-init : goal.loop-track-init
loop-track-init c = record {
  split = sym (c.into_iter-track-iterator.ensures.into_iter_gives ∙ c.all-track-items.ensures);
  codes = c.requires.codes ∙ sym (ap (first_codes c.args.file.now) first_of_all ∙ no_codes c.args.file.now);
  bytes = c.requires.bytes ∙ sym (ap (λ (n : ℕ). image_bytes (first_blocks c.args.file.now n)) first_of_all ∙ no_blocks c.args.file.now);
}

pub add_track-requires : goal.add_track-requires
add_track-requires c =
    let next = next_track 40 c.in-Some.track c.loop-track.yielded c.next.new.self c.loop-track.track-iterator c.loop-track.invariant.split c.in-Some.ensures.steps in
    record {
      file = c.requires.file;
      id = c.in_ok-id.ensures;
      codes = c.loop-track.invariant.codes ∙ ap (λ (track : ℕ). first_codes c.args.file.now (first_block track)) (sym next.is);
      bytes = c.loop-track.invariant.bytes ∙ ap (λ (track : ℕ). image_bytes (first_blocks c.args.file.now (first_block track))) (sym next.is);
    }

pub loop-track-preserved : goal.loop-track-preserved
loop-track-preserved c =
    let next = next_track 40 c.in-Some.track c.loop-track.yielded c.next.new.self c.loop-track.track-iterator c.loop-track.invariant.split c.in-Some.ensures.steps in
    record {
      split = next.split;
      codes = c.in_ok-add_track.ensures.codes ∙ ap (λ (n : ℕ). first_codes c.args.file.now (first_block (n + 1))) (sym next.more);
      bytes = c.in_ok-add_track.ensures.bytes ∙ ap (λ (n : ℕ). image_bytes (first_blocks c.args.file.now (first_block (n + 1)))) (sym next.more);
    }

pub returns-clause-codes : goal.returns-clause-codes
returns-clause-codes c =
    let all = all_tracks 40 c.loop-track.yielded c.loop-track.track-iterator c.loop-track.invariant.split c.in-None.ensures.steps.0 in
    c.loop-track.invariant.codes ∙ ap (λ (n : ℕ). first_codes c.args.file.now (first_block (n + 1))) all ∙ ap (first_codes c.args.file.now) last_of_all

pub returns-clause-bytes : goal.returns-clause-bytes
returns-clause-bytes c =
    let all = all_tracks 40 c.loop-track.yielded c.loop-track.track-iterator c.loop-track.invariant.split c.in-None.ensures.steps.0 in
    c.loop-track.invariant.bytes ∙ ap (λ (n : ℕ). image_bytes (first_blocks c.args.file.now (first_block (n + 1)))) all
    ∙ ap (λ (n : ℕ). image_bytes (first_blocks c.args.file.now n)) last_of_all
