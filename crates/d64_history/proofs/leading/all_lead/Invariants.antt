use Rattle.std.proofs.Common.{◌≡◌, ◌+◌, ◌≤◌, length}
use Rattle.d64_image.specs.PatchList.{blocks_before}
use Rattle.d64_history.specs.ResumeFault.{differ_along}
use Rattle.d64_history.specs.Resuming.{on_side}
use Rattle.d64_history.proofs.leading.all_lead.Given as goal

-- the records so far differ
abbrev pub invariant-loop : goal.invariant-loop
invariant-loop l = record {
  differ : differ_along l.image (on_side l.is_back l.records l.place.number) ≡ differ_along l.initial.image (on_side l.is_back l.records l.initial.place.number);
  left : length (on_side l.is_back l.records l.place.number) + l.counter ≡ length (on_side l.is_back l.records l.initial.place.number);
  within : l.place.number ≤ length l.records;
  place : l.place.blocks ≡ blocks_before l.records l.place.number;
  long : length l.image ≡ length l.initial.image;
}
