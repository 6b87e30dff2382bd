-- How a name of the host is shown, in text and in JSON: no byte of it controls a terminal or begins
-- a new line.
use Rattle.std.specs.Prelude.{ℕ, zero, suc, ◌+◌, ◌*◌, ◌/◌, ◌%◌, ◌≤◌, ◌≢◌, ◌==◌, ◌&&◌, ◌||◌, Bool, false, if◌then◌else◌, nat_lt, nat_le, List, [], ◌∷◌, ◌++◌, take, slice_index, unwrap_or, All, Option, Some, None, codes}
use Rattle.std.specs.Int.{is_in_range}
use Rattle.std.specs.Option.{option_map_or}
use Rattle.std.specs.Str.Lossy.{second_byte_min, second_byte_max}
use Rattle.petscii.specs.Spelling.{hex_digit}
use Rattle.host_storage.specs.declared.medium.Medium.{Medium}
use Rattle.host_storage.specs.declared.medium.Medium.TheVariants.{Text, Json}

-- whether the byte at a place continues a character
abbrev pub continues_at : List ℕ → ℕ → Bool
continues_at bytes place = is_in_range 0x80 0xBF (slice_index bytes place)

-- whether the first of these bytes may be the second of a character that begins with this one
abbrev pub is_second : ℕ → List ℕ → Bool
is_second first rest = is_in_range (second_byte_min first) (second_byte_max first) (slice_index rest 0)

-- how many bytes follow this one in a character that it begins; None if it begins no character
-- (Unicode, well-formed UTF-8)
unfoldable pub following_count : ℕ → List ℕ → Option ℕ
following_count first rest =
    if nat_lt first 0x80 then Some 0
    else (if is_in_range 0xC2 0xDF first && continues_at rest 0 then Some 1
    else (if is_in_range 0xE0 0xEF first && (is_second first rest && continues_at rest 1) then Some 2
    else (if is_in_range 0xF0 0xF4 first && (is_second first rest && (continues_at rest 1 && continues_at rest 2)) then Some 3
    else None)))

-- the bits that the byte at a place adds to the number of a character
abbrev pub six_bits : List ℕ → ℕ → ℕ
six_bits rest place = slice_index rest place % 64

-- the number of the character with this first byte and n more
unfoldable pub character_number : ℕ → ℕ → List ℕ → ℕ
character_number first count rest =
    if count == 0 then first
    else (if count == 1 then first % 32 * 64 + six_bits rest 0
    else (if count == 2 then first % 16 * 4096 + six_bits rest 0 * 64 + six_bits rest 1
    else first % 8 * 262144 + six_bits rest 0 * 4096 + six_bits rest 1 * 64 + six_bits rest 2))

-- whether a character controls a terminal, or turns the direction of text
abbrev pub is_hidden : ℕ → Bool
is_hidden number =
    nat_lt number 0x20
    || (is_in_range 0x7F 0x9F number
    || (number == 0x61C
    || (is_in_range 0x200E 0x200F number
    || (is_in_range 0x202A 0x202E number
    || is_in_range 0x2066 0x2069 number))))

-- `\`
abbrev pub backslash : ℕ
backslash = 92

-- the hexadecimal digit of a number at the place with this worth
abbrev pub digit_at : ℕ → ℕ → ℕ
digit_at worth number = hex_digit (number / worth % 16)

-- that digit, if the number reaches the place
abbrev pub digit_from : ℕ → ℕ → List ℕ
digit_from worth number = if nat_le worth number then digit_at worth number ∷ [] else []

-- a number below 65536 in hexadecimal digits, with no zeros in front
unfoldable pub hexadecimal : ℕ → List ℕ
hexadecimal number = digit_from 4096 number ++ (digit_from 256 number ++ (digit_from 16 number ++ digit_at 1 number ∷ []))

-- a number below 65536 in four hexadecimal digits
unfoldable pub four_digits : ℕ → List ℕ
four_digits number = digit_at 4096 number ∷ digit_at 256 number ∷ digit_at 16 number ∷ digit_at 1 number ∷ []

-- whether a character is written twice: in text a `\`, which begins what is shown for hidden
-- characters; JSON has escaped it already
abbrev pub is_doubled : Medium → ℕ → Bool
is_doubled Text number = number == backslash
is_doubled Json number = false

-- a hidden character by its number, as `\u{1b}` or `\u001b`
unfoldable pub hidden_text : Medium → ℕ → List ℕ
hidden_text Text number = codes "\\u{" ++ (hexadecimal number ++ codes "}")
hidden_text Json number = codes "\\u" ++ four_digits number

-- a character with this number and these bytes as it is shown: as it is, unless it is doubled or
-- hidden
unfoldable pub shown_character : Medium → ℕ → List ℕ → List ℕ
shown_character medium number bytes =
    if is_doubled medium number then backslash ∷ backslash ∷ [] else (if is_hidden number then hidden_text medium number else bytes)

-- a byte that begins no character as it is shown; JSON has no such byte
unfoldable pub shown_byte : Medium → ℕ → List ℕ
shown_byte Text byte = codes "\\x" ++ (digit_at 16 byte ∷ digit_at 1 byte ∷ [])
shown_byte Json byte = byte ∷ []

-- the character that begins with this byte as it is shown, or else the byte
abbrev pub shown_first : Medium → ℕ → List ℕ → List ℕ
shown_first medium first rest =
    option_map_or (λ count. shown_character medium (character_number first count rest) (first ∷ take count rest)) (following_count first rest) (shown_byte medium first)

-- bytes as they are shown, after the first n, which belong to a character that is shown already
unfoldable pub shown_after : Medium → ℕ → List ℕ → List ℕ
shown_after medium count [] = []
shown_after medium (suc count) (byte ∷ rest) = shown_after medium count rest
shown_after medium zero (byte ∷ rest) = shown_first medium byte rest ++ shown_after medium (unwrap_or (following_count byte rest) 0) rest

-- bytes as they are shown
abbrev pub shown_in : Medium → List ℕ → List ℕ
shown_in medium bytes = shown_after medium 0 bytes

-- a name as it is shown in text
unfoldable pub shown_name : List ℕ → List ℕ
shown_name name = shown_in Text name

-- a text of JSON as it is shown; only its strings have hidden characters
unfoldable pub shown_json : List ℕ → List ℕ
shown_json text = shown_in Json text

-- whether JSON shows a byte of ASCII as it is
abbrev pub is_plain : ℕ → Bool
is_plain byte = is_in_range 0x20 0x7E byte

-- a byte is no control of a terminal
abbrev pub IsPrinted : ℕ → Type 0
IsPrinted byte = (32 ≤ byte) × (byte ≢ 127)

-- no name and no text of JSON shows a control byte, so that no name begins a new line
abbrev pub NoNameMakesALine : Type 0
NoNameMakesALine = (name : List ℕ) → All IsPrinted (shown_name name) × All IsPrinted (shown_json name)
