-- The limits on reading an input, and when it can't be read to its end.
use Rattle.std.specs.Prelude.{◌≡◌, ℕ, ◌<◌, ◌≤◌, Bool, true, false, ◌⊎◌}

-- how far an input was read: the reads that were made, the bytes that they gave, and whether one of
-- them failed
pub record Reading : Type 0 where
  pub reads : ℕ
  pub came : ℕ
  pub has_failed : Bool

abbrev pub reading_of : ℕ → ℕ → Bool → Reading
reading_of reads came has_failed = record { reads = reads; came = came; has_failed = has_failed }

-- the most bytes of an input, or of a file that the program reads
abbrev pub input_limit : ℕ
input_limit = 16777216

-- the most reads that are made of an input, including the one that finds the end
abbrev pub reads_limit : ℕ
reads_limit = 1000000

-- the most bytes that one read asks for
abbrev pub read_limit : ℕ
read_limit = 4096

-- nothing was read of the input
abbrev pub IsUnread : Reading → Type 0
IsUnread input = input ≡ reading_of 0 0 false

-- one more read is allowed: no read has failed, and no limit is reached
abbrev pub MayBeRead : Reading → Type 0
MayBeRead input = (input.has_failed ≡ false) × (input.reads < reads_limit) × (input.came ≤ input_limit)

-- the input can't be read to its end: a read failed, it gave more bytes than a script may have, or
-- all reads that are allowed were made
abbrev pub IsUnreadable : Reading → Type 0
IsUnreadable input = (input.has_failed ≡ true) ⊎ ((input_limit < input.came) ⊎ (input.reads ≡ reads_limit))
