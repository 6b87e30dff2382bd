use Rattle.std.proofs.Common.{◌≡◌, ℕ, ◌||◌, eqb, take}
use Rattle.std.specs.List.{list_any}
use Rattle.std.specs.FinSet as set
use Rattle.d64_survey.specs.Flaws.{any_shared}
use Rattle.d64_inventory.proofs.file_blocks.FileBlocks.add_all.Given as goal

abbrev pub invariant-loop-block : goal.invariant-loop-block
invariant-loop-block l = record {
  members : (block : ℕ) → set.contains l.self.members block ≡ (set.contains l.fn.self.members block || list_any (eqb block) (take l.block-index l.blocks));
  broken : l.self.is_broken ≡ l.fn.self.is_broken;
  shared : l.self.is_shared ≡ (l.fn.self.is_shared || any_shared l.survey (take l.block-index l.blocks));
  free : l.self.is_marked_free ≡ (l.fn.self.is_marked_free || list_any (set.contains l.free) (take l.block-index l.blocks));
}
