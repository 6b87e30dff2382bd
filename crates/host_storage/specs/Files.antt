-- The files of a host, and what else it exposes.
use Rattle.std.specs.Prelude.{ℕ, List, Option}
use Rattle.std.specs.Ordering.{nat_cmp}
use Rattle.std.specs.Cmp.Lexicographic.{slice_cmp}
use Rattle.std.specs.FinMap.{FinMap}

-- a host's files: a map from names, as bytes, to the files' bytes; a folder is an empty file whose
-- name ends with a slash
abbrev pub Files : Type 0
Files = FinMap (slice_cmp nat_cmp) (List ℕ)

-- what a host exposes: its files, if it exposes them, and how many of its calls failed, as far as
-- it can count
pub record HostState : Type 0 where
  pub files : Option Files
  pub failures : ℕ
