-- How one page of dumps is made, by the options.
use Rattle.std.specs.Prelude.{◌≡◌, ◌==◌, Bool, true, false, List, length, codes, option_map, string_bytes, ⊤}
use Rattle.std.specs.Option.{option_map_or}
use Rattle.clap.specs.Words.{Row, Text, first_of}
use Rattle.program_arguments.specs.Values.{has_flag}
use Rattle.program_arguments.specs.declared.jobs.JobFault.{JobFault}
use Rattle.program_arguments.specs.declared.jobs.JobFault.TheVariants.{Title, Links, Memory}
use Rattle.program_arguments.specs.declared.jobs.Page.{Page}

-- an argument is given an empty value
abbrev pub is_left_empty : Text → List Row → Bool
is_left_empty id rows = option_map_or (λ value. length value == 0) (first_of id rows) false

-- neither `--title` nor `--links` has an empty value
abbrev pub HasNamedPage : List Row → Type 0
HasNamedPage rows = (is_left_empty (codes "title") rows ≡ false) × (is_left_empty (codes "links") rows ≡ false)

-- the page has pictures if `--maps` is given, the title that `--title` gives, and links into the
-- folder that `--links` gives
abbrev pub IsPageBy : List Row → Page → Type 0
IsPageBy rows page =
    (page.maps ≡ has_flag (codes "maps") rows) × (option_map string_bytes page.title ≡ first_of (codes "title") rows)
    × (option_map string_bytes page.links ≡ first_of (codes "links") rows) × HasNamedPage rows

-- why there is no page: its title is empty, or else the folder of its links
abbrev pub IsPageFault : List Row → JobFault → Type 0
IsPageFault rows Title = is_left_empty (codes "title") rows ≡ true
IsPageFault rows Links = (is_left_empty (codes "title") rows ≡ false) × (is_left_empty (codes "links") rows ≡ true)
IsPageFault rows Memory = ⊤
IsPageFault rows other = ⊥
