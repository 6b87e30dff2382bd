use Rattle.std.proofs.Common.{◌≡◌, ℕ, List, ◌++◌}
use Rattle.std.specs.Prelude.{All}
use Rattle.std.specs.List.{flat_map}
use Rattle.d64_files.specs.Slot.{EntryView}
use Rattle.d64_files.specs.Ownership.{owned_by, HasItsChains}
use Rattle.d64_files.specs.Claims.{claims_of}
use Rattle.d64_files.proofs.claims.Claims.claim_files.Given as goal

abbrev pub invariant-loop-entry : goal.invariant-loop-entry
invariant-loop-entry l = record {
  split : l.fn.slots ≡ l.yielded ++ l.entry-iterator;
  chains : All (λ (entry : EntryView). HasItsChains l.image entry.bytes) l.yielded;
  claimed : (before : List ℕ) → l.fn.self ≡ claims_of before → l.self ≡ claims_of (before ++ flat_map (λ (entry : EntryView). owned_by l.image entry.bytes) l.yielded);
}
