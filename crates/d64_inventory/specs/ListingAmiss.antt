-- When something is amiss in the list of the files of a dump: a file isn't whole, or files may be
-- missing from it.
use Rattle.std.specs.Prelude.{◌||◌, nat_lt, not, Bool, ◌∷◌}
use Rattle.d64_map.specs.Map.{map_block}
use Rattle.d64_survey.specs.Dump.{DumpView}
use Rattle.d64_survey.specs.Way.{is_whole}
use Rattle.d64_survey.specs.Owners.{directory_way}
use Rattle.d64_survey.specs.Flaws.{any_unreadable}
use Rattle.d64_survey.specs.Inspection.{unwhole_count}

-- whether there is a read error in the map's block or in a block of the directory's way
abbrev pub is_directory_unreadable : DumpView → Bool
is_directory_unreadable dump = any_unreadable dump.codes (map_block ∷ (directory_way dump.image).0)

-- whether a used slot has a file that is known not to be whole, the directory's way isn't a whole
-- chain, or there is such a read error
unfoldable pub is_listing_amiss : DumpView → Bool
is_listing_amiss dump = nat_lt 0 (unwhole_count dump) || (not (is_whole (directory_way dump.image).1) || is_directory_unreadable dump)
