-- The values that are given to an argument of several, and whether a flag is given.
use Rattle.std.specs.Prelude.{Bool, false, List, [], codes, bytes_eq, unwrap_or}
use Rattle.std.specs.Option.{option_map_or}
use Rattle.clap.specs.Words.{Row, Text, all_of, first_of}

-- the values that an argument is given; none without it
abbrev pub all_given : Text → List Row → List Text
all_given id rows = unwrap_or (all_of id rows) []

-- a flag is given
abbrev pub has_flag : Text → List Row → Bool
has_flag id rows = option_map_or (λ value. bytes_eq value (codes "true")) (first_of id rows) false
