use Rattle.std.proofs.Common.{◌≡◌, ℕ, ◌<◌, true, length}
use Rattle.std.specs.FinSet as set
use Rattle.d64_image.specs.declared.block.TheConstants.{BLOCKS}
use Rattle.d64_survey.proofs.Trails.{Walking}
use Rattle.d64_survey.proofs.walking.walk.Given as goal

abbrev pub invariant-loop : goal.invariant-loop
invariant-loop l = record {
  walking : Walking l.image (l.fn.track, l.fn.sector) l.blocks l.seen (l.at_track, l.at_sector);
  below : (q : ℕ) → set.contains l.seen q ≡ true → q < BLOCKS;
  count : length l.blocks ≡ l.counter;
}
