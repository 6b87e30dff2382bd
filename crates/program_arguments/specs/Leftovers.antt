-- What the arguments ask for of what is left over beside files.
use Rattle.std.specs.Prelude.{◌≡◌, List, codes}
use Rattle.clap.specs.Words.{Row}
use Rattle.program_arguments.specs.Values.{has_flag}
use Rattle.program_arguments.specs.declared.jobs.Leftovers.{Leftovers}

-- deleted files are wanted if `--deleted` is given, and chains that no entry leads to if
-- `--orphans` is
abbrev pub IsLeftoversBy : List Row → Leftovers → Type 0
IsLeftoversBy rows leftovers = (leftovers.deleted ≡ has_flag (codes "deleted") rows) × (leftovers.orphans ≡ has_flag (codes "orphans") rows)
