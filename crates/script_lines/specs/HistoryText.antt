-- The lines of a history.
use Rattle.std.specs.Prelude.{ℕ, ◌+◌, ◌-◌, nat_lt, if◌then◌else◌, ◌++◌, length, codes, unwrap_or}
use Rattle.d64_image.specs.Disk.{Bytes}
use Rattle.std.specs.Fmt.{decimal}
use Rattle.std.specs.List.{flat_map, range_with_len}
use Rattle.d64_history.specs.History.{History, record_len}

-- the line of a record: its number from 1, how many blocks differ, and whether it is done
unfoldable pub record_line : History → ℕ → Bytes
record_line history number =
    decimal (number + 1) ++ codes " " ++ decimal (unwrap_or (record_len history number) 0)
    ++ (if nat_lt number history.cursor then codes " done\n" else codes " undone\n")

-- the lines of the records, oldest first; there is one record less than images
unfoldable pub history_text : History → Bytes
history_text history = flat_map (record_line history) (range_with_len 0 (length history.images - 1))
