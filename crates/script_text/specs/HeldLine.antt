-- The part of a line that is held while it is being read, and its text at its end.
use Rattle.std.specs.Prelude.{◌≡◌, ◌<◌, ℕ, false, true, List, length, MatchBool, ◌==◌}
use Rattle.std.specs.List.{list_any}
use Rattle.script_text.specs.RawLines.{is_ended, is_too_long, line_feed, line_limit, text_of}
use Rattle.script_text.specs.declared.held_line.HeldLine.{HeldLine}

-- there is no LF among the bytes
abbrev pub IsOpen : List ℕ → Type 0
IsOpen bytes = list_any (λ byte. byte == line_feed) bytes ≡ false

-- these bytes of the line were read: all of them are held, or they are more than a line may have
abbrev pub HoldsLine : HeldLine → List ℕ → Type 0
HoldsLine line bytes = MatchBool line.is_long (line_limit < length bytes) (line.bytes.items ≡ bytes)

-- the text of a raw line is held, without the LF that ended it, or the line is too long
abbrev pub HoldsText : HeldLine → List ℕ → Type 0
HoldsText line raw =
    MatchBool line.is_long (is_too_long raw ≡ true)
    ((is_too_long raw ≡ false) × (text_of raw ≡ line.bytes.items) × (is_ended line.bytes.items ≡ false))
