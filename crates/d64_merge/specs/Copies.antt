-- The copies of a block: each dump that has the block has one.
use Rattle.std.specs.Prelude.{ℕ, ◌==◌, ◌&&◌, ◌*◌, nat_eq, nat_lt, not, Bool, false, List, length, count_by, Option}
use Rattle.std.specs.List.{slice_get}
use Rattle.std.specs.Option.{option_map_or}
use Rattle.std.specs.Cmp.Lexicographic.{pointwise}
use Rattle.d64_image.specs.Image.{sector_at}
use Rattle.d64_survey.specs.Dump.{DumpView, code_bytes, is_read_error}
use Rattle.d64_survey.specs.ReadErrors.{code_of}

-- a dump has a block
abbrev pub has_block : ℕ → DumpView → Bool
has_block block dump = nat_lt block (length dump.image)

-- the read code of its copy; None if the dump has no codes or doesn't have the block
abbrev pub known_code : ℕ → DumpView → Option ℕ
known_code block dump = slice_get (code_bytes dump.codes) block

-- a copy is good: the dump has the block, and no codes or a good one for it
abbrev pub is_good : ℕ → DumpView → Bool
is_good block dump = has_block block dump && not (is_read_error (code_of dump.codes block))

-- the checksum of a copy was wrong: code 5
abbrev pub has_bad_checksum : ℕ → DumpView → Bool
has_bad_checksum block dump = option_map_or (λ code. code == 5) (known_code block dump) false

-- two copies are good and equal
abbrev pub agree : ℕ → DumpView → DumpView → Bool
agree block one other =
    is_good block one && (is_good block other && pointwise nat_eq (sector_at one.image block) (sector_at other.image block))

-- how many dumps have a good copy
abbrev pub good_count : ℕ → List DumpView → ℕ
good_count block dumps = count_by (is_good block) dumps

-- how many good copies are equal to that of a dump, if that is good
abbrev pub votes : ℕ → List DumpView → DumpView → ℕ
votes block dumps dump = count_by (agree block dump) dumps

-- more than half of the good copies are equal to that of a dump
abbrev pub wins : ℕ → List DumpView → DumpView → Bool
wins block dumps dump = nat_lt (good_count block dumps) (2 * votes block dumps dump)
