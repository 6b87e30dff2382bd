-- Why the file of a slot is not whole.
use Rattle.std.specs.Prelude.{ℕ, ◌==◌, ◌&&◌, ◌||◌, not, Bool, true, false, if◌then◌else◌, List, [], ◌∷◌, ◌++◌, length, Option, Some, None, is_some}
use Rattle.std.specs.List.{list_any}
use Rattle.std.specs.Option.{option_map_or}
use Rattle.d64_image.specs.Disk.{Disk, Bytes, Blocks}
use Rattle.d64_files.specs.Slot.{kind_number, is_closed, has_kind, side_pair, geos_type, size_of}
use Rattle.d64_survey.specs.Dump.{is_read_error}
use Rattle.d64_survey.specs.ReadErrors.{code_of}
use Rattle.d64_survey.specs.Way.{way, block_at, is_whole}
use Rattle.d64_survey.specs.Owners.{pair_of, is_shared}
use Rattle.d64_survey.specs.SlotBlocks.{slot_blocks}
use Rattle.d64_survey.specs.declared.owner.Part.TheVariants.{Data, Side}
use Rattle.d64_survey.specs.declared.flaw.Flaw.{Flaw}
use Rattle.d64_survey.specs.declared.flaw.Flaw.TheVariants.{Unclosed, Kindless, Broken, Shared, Unreadable, Missized, Geos}

-- whether the kind of an entry has the number of DEL
abbrev pub is_del_entry : Bytes → Bool
is_del_entry cell = kind_number cell == 0

-- whether a file is one of GEOS: of the kind USR, with a type, and with a pair of the image in the
-- bytes in which a REL file has that of its side blocks
abbrev pub is_geos : Disk → Bytes → Bool
is_geos image cell = (kind_number cell == 3) && (not (geos_type cell == 0) && option_map_or (λ pair. is_some (block_at image pair)) (side_pair cell) false)

-- whether there is a way from a pair that isn't a whole chain
abbrev pub is_broken_from : Disk → Option (ℕ × ℕ) → Bool
is_broken_from image pair = option_map_or (λ pair. not (is_whole (way image pair).1)) pair false

-- whether a way of the file isn't a whole chain
abbrev pub is_broken : Disk → Bytes → Bool
is_broken image cell = is_broken_from image (pair_of Data cell) || is_broken_from image (pair_of Side cell)

-- whether one of some blocks has more than one owner
abbrev pub any_shared : Disk → Blocks → Bool
any_shared image blocks = list_any (is_shared image) blocks

-- whether one of some blocks has a read error
abbrev pub any_unreadable : Option Bytes → Blocks → Bool
any_unreadable codes blocks = list_any (λ block. is_read_error (code_of codes block)) blocks

-- whether the file has a data way, its ways are whole chains, and the shown size isn't the sum of
-- their lengths
abbrev pub is_missized : Disk → Bytes → Bool
is_missized image cell =
    is_some (pair_of Data cell) && (not (is_broken image cell) && not (length (slot_blocks image cell) == size_of cell))

-- a list of the flaw if there is one, and else the empty list
abbrev pub where_flawed : Bool → Flaw → List Flaw
where_flawed there flaw = if there then flaw ∷ [] else []

-- why a file is not whole, in order; a DEL entry isn't looked at
unfoldable pub why : Disk → Option Bytes → Bytes → List Flaw
why image codes cell =
    if is_del_entry cell then [] else
    (where_flawed (not (is_closed cell)) Unclosed
    ++ (where_flawed (not (has_kind cell)) Kindless
    ++ (where_flawed (is_broken image cell) Broken
    ++ (where_flawed (any_shared image (slot_blocks image cell)) Shared
    ++ (where_flawed (any_unreadable codes (slot_blocks image cell)) Unreadable
    ++ (where_flawed (not (is_geos image cell) && is_missized image cell) Missized
    ++ where_flawed (is_geos image cell) Geos))))))

-- whether a file with these flaws is whole; not known for a GEOS file without other flaws
abbrev pub is_whole_with : List Flaw → Option Bool
is_whole_with [] = Some true
is_whole_with (Geos ∷ flaws) = None
is_whole_with (flaw ∷ flaws) = Some false

-- whether the file of a slot with these flaws is whole; not known for a DEL entry
abbrev pub wholeness_by : Bytes → List Flaw → Option Bool
wholeness_by cell flaws = if is_del_entry cell then None else is_whole_with flaws

-- whether the file of a slot is whole, if that is known
abbrev pub wholeness : Disk → Option Bytes → Bytes → Option Bool
wholeness image codes cell = wholeness_by cell (why image codes cell)
