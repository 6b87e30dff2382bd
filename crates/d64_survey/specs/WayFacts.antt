-- What reports need of a way.
use Rattle.std.specs.Prelude.{◌≡◌, ℕ, List, length, Option, None, IfSome, slice_index_or}
use Rattle.std.specs.Option.{option_map_or}
use Rattle.d64_image.specs.Disk.{Disk, Bytes, Blocks}
use Rattle.d64_survey.specs.Way.{way, block_at}
use Rattle.d64_survey.specs.Faults.{last_of}
use Rattle.d64_survey.specs.Flaws.{any_shared, any_unreadable}
use Rattle.d64_survey.specs.declared.way_end.WayEnd.{WayEnd}
use Rattle.d64_survey.specs.declared.way_table.WayFacts.{WayFacts}

-- the facts of a way with these blocks and this end
abbrev pub facts_of : Disk → Option Bytes → Blocks × WayEnd → WayFacts
facts_of image codes way = record {
  end = way.1;
  last = last_of way.0;
  blocks = length way.0;
  is_shared = any_shared image way.0;
  is_unreadable = any_unreadable codes way.0;
}

-- the facts of the way from a pair
abbrev pub way_facts : Disk → Option Bytes → ℕ × ℕ → WayFacts
way_facts image codes pair = facts_of image codes (way image pair)

-- what is noted of the ways from a block, if there is such a block
abbrev pub noted_way : List (Option WayFacts) → Option ℕ → Option WayFacts
noted_way ways block = option_map_or (λ block. slice_index_or ways block None) block None

-- what is noted of a way is true of it
abbrev pub RecordsWays : Disk → Option Bytes → List (Option WayFacts) → Type 0
RecordsWays image codes ways = (pair : ℕ × ℕ) → IfSome (noted_way ways (block_at image pair)) (λ facts. facts ≡ way_facts image codes pair)
