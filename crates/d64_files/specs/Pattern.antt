-- The patterns for names, and which names they match.
use Rattle.std.specs.Prelude.{ℕ, Bool, true, false, ◌==◌, ◌&&◌, ◌||◌, ◌≢◌, [], ◌∷◌}
use Rattle.d64_image.specs.Disk.{Bytes}
use Rattle.d64_files.specs.Label.{IsLabel, is_label, star, question_mark, separators}

-- a pattern that the names of files are compared with
abbrev pub IsPattern : Bytes → Type 0
IsPattern = IsLabel separators

-- whether some bytes are a pattern
abbrev pub is_pattern : Bytes → Bool
is_pattern = is_label separators

-- the four cases in which a pattern matches a name
pub data Matches : Bytes → Bytes → Type 0 where
  both_empty : Matches [] []
  any_rest : {pattern name : Bytes} → Matches (star ∷ pattern) name
  any_byte : {b : ℕ} {pattern name : Bytes} → Matches pattern name → Matches (question_mark ∷ pattern) (b ∷ name)
  same_byte : {b : ℕ} {pattern name : Bytes} → b ≢ star → b ≢ question_mark → Matches pattern name → Matches (b ∷ pattern) (b ∷ name)

-- a pattern matches a name
abbrev pub matches : Bytes → Bytes → Bool
matches [] [] = true
matches [] (b ∷ name) = false
matches (p ∷ pattern) [] = p == star
matches (p ∷ pattern) (b ∷ name) = p == star || ((p == question_mark || p == b) && matches pattern name)
