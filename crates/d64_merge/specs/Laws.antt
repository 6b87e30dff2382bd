-- What follows from the definition of a merge.
use Rattle.std.specs.Prelude.{◌≡◌, ◌≢◌, ℕ, ◌<◌, suc, Bool, true, false, List, [], length, replicate, All, Some}
use Rattle.std.specs.List.{Contains}
use Rattle.std.specs.List.Sorted.{IsPermutation}
use Rattle.d64_image.specs.Image.{sector_at}
use Rattle.d64_survey.specs.Dump.{DumpView, IsDump, is_read_error}
use Rattle.d64_survey.specs.ReadErrors.{code_of}
use Rattle.d64_merge.specs.Copies.{has_block, is_good}
use Rattle.d64_merge.specs.Merged.{choices, outcome_count, merged}
use Rattle.d64_merge.specs.declared.outcome.Preference.{Preference}
use Rattle.d64_merge.specs.declared.outcome.BlockOutcome.TheVariants.{Lost, First}

-- one of the dumps has the block, with these bytes
abbrev pub IsIn : List DumpView → ℕ → List ℕ → Type 0
IsIn dumps block bytes = (dump : DumpView) × Contains dumps dump × (has_block block dump ≡ true) × (sector_at dump.image block ≡ bytes)

-- each block of the merged dump is some dump's at its place
abbrev pub EachBlockIsADumps : Type 0
EachBlockIsADumps =
    (preference : Preference) (plain : Bool) (dumps : List DumpView) (made : DumpView) (block : ℕ)
    → dumps ≢ [] → All IsDump dumps → merged preference plain dumps ≡ Some made → block < length made.image
    → IsIn dumps block (sector_at made.image block)

-- it has a read error only if no copy is good
abbrev pub ErrorsOnlyWhereAllAreLost : Type 0
ErrorsOnlyWhereAllAreLost =
    (preference : Preference) (plain : Bool) (dumps : List DumpView) (made : DumpView) (block : ℕ)
    → merged preference plain dumps ≡ Some made → block < length made.image → is_read_error (code_of made.codes block) ≡ true
    → All (λ dump. is_good block dump ≡ false) dumps

-- one dump gives that dump, and so do equal ones
abbrev pub EqualDumpsMakeThatDump : Type 0
EqualDumpsMakeThatDump =
    (preference : Preference) (dump : DumpView) (count : ℕ) → IsDump dump → merged preference false (replicate (suc count) dump) ≡ Some dump

-- if no block is lost or taken from the first good copy, the blocks don't depend on the order of
-- the dumps
abbrev pub OrderDoesNotMatter : Type 0
OrderDoesNotMatter =
    (preference : Preference) (plain : Bool) (dumps others : List DumpView) (made : DumpView)
    → IsPermutation dumps others → merged preference plain dumps ≡ Some made
    → outcome_count Lost (choices preference dumps) ≡ 0 → outcome_count First (choices preference dumps) ≡ 0
    → (other : DumpView) × (merged preference plain others ≡ Some other) × (other.image ≡ made.image)
