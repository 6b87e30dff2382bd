-- What the arguments of `merge` ask for.
use Rattle.std.specs.Prelude.{◌≡◌, List, Some, codes, string_bytes}
use Rattle.clap.specs.Words.{Row, first_of}
use Rattle.program_arguments.specs.Values.{has_flag}
use Rattle.program_arguments.specs.declared.jobs.Merging.{Merging}

-- the dump goes to the file that `--output` gives, without read codes if `--plain` is given; if
-- good copies differ, `--majority` and `--first` say what is taken
abbrev pub IsMergingBy : List Row → Merging → Type 0
IsMergingBy rows merging =
    (first_of (codes "output") rows ≡ Some (string_bytes merging.output)) × (merging.plain ≡ has_flag (codes "plain") rows)
    × (merging.majority ≡ has_flag (codes "majority") rows) × (merging.first ≡ has_flag (codes "first") rows)
