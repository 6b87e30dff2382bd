-- The title of the page.
use Rattle.std.specs.Prelude.{ℕ, ◌-◌, ◌==◌, ◌&&◌, ◌||◌, nat_le, nat_lt, Bool, if◌then◌else◌, List, length, map, slice_index, Option, Some, None, codes}
use Rattle.std.specs.Int.{is_in_range}
use Rattle.std.specs.List.{range_with_len}
use Rattle.out_markup.specs.Markup.{held_text}

-- a byte is a control character of ASCII
abbrev pub is_control : ℕ → Bool
is_control byte = nat_lt byte 0x20 || byte == 0x7F

-- the byte at a place is the last of U+0080 to U+009F: C2 80 to C2 9F
abbrev pub ends_control : List ℕ → ℕ → Bool
ends_control text place = is_in_range 0x80 0x9F (slice_index text place) && (nat_le 1 place && slice_index text (place - 1) == 0xC2)

-- a byte of a text in which a space replaces each control character of ASCII, and a no-break space,
-- U+00A0, each other one
abbrev pub plain_byte : List ℕ → ℕ → ℕ
plain_byte text place =
    if is_control (slice_index text place) then 32
    else (if ends_control text place then 0xA0 else slice_index text place)

-- a text with these replacements
unfoldable pub plain_text : List ℕ → List ℕ
plain_text text = map (plain_byte text) (range_with_len 0 (length text))

-- the title and heading of the page: the text that is asked for, without control characters and
-- what a page cannot have, or the usual one
unfoldable pub page_title : Option (List ℕ) → List ℕ
page_title None = codes "Disks"
page_title (Some text) = held_text (plain_text text)
