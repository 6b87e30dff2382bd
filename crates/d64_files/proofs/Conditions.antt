-- Which conditions of a sound image hold, and which is the first that fails.
use Rattle.std.proofs.Common.{◌≢◌, ℕ, ◌<◌, ◌≤◌, List, [], arith}
use Rattle.std.specs.Prelude.{All}
use Rattle.d64_files.specs.Slot.{HasKind}
use Rattle.d64_files.specs.Directory.{directory, slots, condition_number, Holds, AllHold, IsFirstFault}
use Rattle.d64_files.specs.declared.dir_fault.DirFault.{DirFault}
use Rattle.d64_files.specs.declared.dir_fault.DirFault.TheVariants.{WrongCounts, NoDirectory, UnknownKind, NoChain, CrossLinked, MarkedFree}

-- a directory whose slots all have kinds meets the conditions 2 and 3
pub both_hold : (image : List (List ℕ)) → directory image ≢ [] → All HasKind (slots image) → AllHold image 2 3
both_hold image exists kinds WrongCounts from to = absurd (omega arith)
both_hold image exists kinds NoDirectory from to = exists
both_hold image exists kinds UnknownKind from to = kinds
both_hold image exists kinds NoChain from to = absurd (omega arith)
both_hold image exists kinds CrossLinked from to = absurd (omega arith)
both_hold image exists kinds MarkedFree from to = absurd (omega arith)

-- no condition comes before the second
none_before : (image : List (List ℕ)) (other : DirFault) → 2 ≤ condition_number other → condition_number other < 2 → Holds image other
none_before image other from to = absurd (omega arith)

-- an image without a directory fails the condition 2 first
pub no_directory : (image : List (List ℕ)) → ¬ (directory image ≢ []) → IsFirstFault image 2 3 NoDirectory
no_directory image missing = record {
  not_before = omega arith;
  not_after = omega arith;
  fails = missing;
  others_hold = none_before image;
}

-- only the second comes before the third
one_before : (image : List (List ℕ)) → directory image ≢ [] → (other : DirFault) → 2 ≤ condition_number other → condition_number other < 3 → Holds image other
one_before image exists WrongCounts from to = absurd (omega arith)
one_before image exists NoDirectory from to = exists
one_before image exists UnknownKind from to = absurd (omega arith)
one_before image exists NoChain from to = absurd (omega arith)
one_before image exists CrossLinked from to = absurd (omega arith)
one_before image exists MarkedFree from to = absurd (omega arith)

-- a directory with a slot of no kind fails the condition 3 first
pub unknown_kind : (image : List (List ℕ)) → directory image ≢ [] → ¬ (All HasKind (slots image)) → IsFirstFault image 2 3 UnknownKind
unknown_kind image exists missing = record {
  not_before = omega arith;
  not_after = omega arith;
  fails = missing;
  others_hold = one_before image exists;
}
