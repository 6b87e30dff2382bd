-- What is wrong with a faulty line of a BASIC text, as people can correct it.
use Rattle.std.specs.Prelude.{◌≡◌, ℕ, ◌-◌, ◌&&◌, nat_eq, nat_le, if◌then◌else◌, List, [], ◌∷◌, ◌++◌, length, drop, slice_index, codes, Bool, false, Option, Some, None, find, option_map}
use Rattle.std.specs.Option.{option_map_or}
use Rattle.std.specs.List.{before_first, starts_with}
use Rattle.std.specs.Str.{bytes_eq, is_utf8, str_to_ascii_lowercase}
use Rattle.std.specs.Char.{is_ascii_digit}
use Rattle.petscii.specs.TextForm.{IsTextOf, close_brace}
use Rattle.petscii.specs.Spelling.{spelling}
use Rattle.petscii.specs.declared.fault.TextFault.{TextFault}
use Rattle.petscii.specs.declared.fault.TextFault.TheVariants as text_faults
use Rattle.cbm_text.specs.declared.fault.BasicFault.{BasicFault}
use Rattle.cbm_text.specs.declared.fault.BasicFault.TheVariants as faults
use Rattle.cbm_text.specs.declared.cause.Cause.{Cause}
use Rattle.cbm_text.specs.declared.cause.Cause.TheVariants.{NoNumber, NumberTooLarge, Tab, Pound, Pi, ArrowUp, ArrowLeft, OtherCharacter, OpenBrace, Number, OtherName, UnknownName, Capital, Abbreviation, TokenByte, ZeroByte, TooLong}
use Rattle.cbm_text.specs.declared.mode.Mode.{Mode}
use Rattle.cbm_text.specs.declared.mode.Mode.TheVariants.{Free}
use Rattle.cbm_text.specs.Modes.{first_code, next_mode}
use Rattle.cbm_text.specs.TextLine.{rest_of}

-- ---- texts that are no text form

-- the names in braces that other programs and listings use, in small letters, and the byte of each
unfoldable pub other_names : List (List ℕ × ℕ)
other_names =
    (codes "white", 0x05) ∷ (codes "black", 0x90) ∷ (codes "green", 0x1e) ∷ (codes "blue", 0x1f)
    ∷ (codes "orange", 0x81) ∷ (codes "brown", 0x95) ∷ (codes "pink", 0x96) ∷ (codes "light red", 0x96)
    ∷ (codes "dark gray", 0x97) ∷ (codes "dark grey", 0x97) ∷ (codes "gray", 0x98) ∷ (codes "grey", 0x98)
    ∷ (codes "light green", 0x99) ∷ (codes "light blue", 0x9a) ∷ (codes "light gray", 0x9b) ∷ (codes "light grey", 0x9b)
    ∷ (codes "purple", 0x9c) ∷ (codes "yellow", 0x9e) ∷ (codes "cyan", 0x9f)
    ∷ (codes "right", 0x1d) ∷ (codes "rgt", 0x1d) ∷ (codes "clear", 0x93) ∷ (codes "insert", 0x94) ∷ (codes "delete", 0x14)
    ∷ (codes "reverse on", 0x12) ∷ (codes "rvs on", 0x12) ∷ (codes "reverse off", 0x92) ∷ (codes "rvs off", 0x92)
    ∷ (codes "lower case", 0x0e) ∷ (codes "upper case", 0x8e)
    ∷ (codes "f1", 0x85) ∷ (codes "f2", 0x89) ∷ (codes "f3", 0x86) ∷ (codes "f4", 0x8a)
    ∷ (codes "f5", 0x87) ∷ (codes "f6", 0x8b) ∷ (codes "f7", 0x88) ∷ (codes "f8", 0x8c)
    ∷ []

-- the byte of the first row with a name
abbrev pub byte_in : List (List ℕ × ℕ) → List ℕ → Option ℕ
byte_in rows name = option_map (λ row. row.1) (find (λ row. bytes_eq name row.0) rows)

-- whether a name begins with a digit, as if it were to be repeated
abbrev pub is_numbered : List ℕ → Bool
is_numbered [] = false
is_numbered (byte ∷ rest) = is_ascii_digit byte

-- what is wrong with a name in small letters
abbrev pub text_name_cause : List ℕ → Cause
text_name_cause name = option_map_or (λ byte. OtherName byte) (byte_in other_names name) UnknownName

-- what is wrong with a name in small letters that need not be UTF-8
abbrev pub small_name_cause : List ℕ → Cause
small_name_cause name = if is_utf8 name then text_name_cause name else UnknownName

-- what is wrong with a name in braces
abbrev pub name_cause : List ℕ → Cause
name_cause name = if is_numbered name then Number else small_name_cause (str_to_ascii_lowercase name)

-- what is wrong with the character at the beginning of a text; some are recognised in UTF-8
abbrev pub character_cause : List ℕ → Cause
character_cause text =
    if starts_with nat_eq text (9 ∷ []) then Tab
    else if starts_with nat_eq text (0xc2 ∷ 0xa3 ∷ []) then Pound
    else if starts_with nat_eq text (0xcf ∷ 0x80 ∷ []) then Pi
    else if starts_with nat_eq text (0xe2 ∷ 0x86 ∷ 0x91 ∷ []) then ArrowUp
    else if starts_with nat_eq text (0xe2 ∷ 0x86 ∷ 0x90 ∷ []) then ArrowLeft
    else OtherCharacter

-- what is wrong with a text that is no text form, by its fault
abbrev pub text_cause : List ℕ → TextFault → Cause
text_cause text (text_faults.UnknownName place) = name_cause (before_first (nat_eq close_brace) (drop 1 (drop place text)))
text_cause text (text_faults.OpenBrace place) = OpenBrace
text_cause text (text_faults.BadByte place) = character_cause (drop place text)
text_cause text (text_faults.Memory error) = OtherCharacter

-- ---- bytes that would be read as a keyword

-- a text that begins at such a place crunches to these bytes, up to a place from which nothing
-- crunches, and this is left
unfoldable pub StopsAfter : Mode → List ℕ → List ℕ → List ℕ → Type 0
StopsAfter mode text [] left = (first_code mode text ≡ None) × (text ≡ left)
StopsAfter mode text (code ∷ codes) left =
    (rest : List ℕ) × (first_code mode text ≡ Some (code, rest)) × StopsAfter (next_mode mode code) rest codes left

-- whether a byte is a small letter or a capital one
abbrev pub is_small : ℕ → Bool
is_small byte = nat_le 0x41 byte && nat_le byte 0x5a

abbrev pub is_capital : ℕ → Bool
is_capital byte = nat_le 0xc1 byte && nat_le byte 0xda

-- what is wrong with a byte from which nothing crunches, and which comes behind another byte
abbrev pub letter_cause : ℕ → ℕ → Cause
letter_cause before byte = if is_capital byte then (if is_small before then Abbreviation else Capital) else TokenByte

-- what is wrong with bytes of which these are left
abbrev pub left_cause : List ℕ → List ℕ → Cause
left_cause bytes [] = TokenByte
left_cause bytes (byte ∷ rest) = letter_cause (slice_index bytes (length bytes - length (byte ∷ rest) - 1)) byte

-- what is wrong with bytes that do not crunch
abbrev pub IsTokenCause : List ℕ → Cause → Type 0
IsTokenCause bytes cause =
    (codes : List ℕ) × (left : List ℕ) × StopsAfter Free bytes codes left × (cause ≡ left_cause bytes left)

-- ---- lines

-- what is wrong with a text line that has a fault
abbrev pub IsCause : List ℕ → BasicFault → Cause → Type 0
IsCause text (faults.NoNumber line) cause = cause ≡ NoNumber
IsCause text (faults.NumberTooLarge line) cause = cause ≡ NumberTooLarge
IsCause text (faults.Text line fault) cause = cause ≡ text_cause (rest_of text) fault
IsCause text (faults.TokenByte line) cause = (bytes : List ℕ) → IsTextOf bytes (rest_of text) → IsTokenCause bytes cause
IsCause text (faults.ZeroByte line) cause = cause ≡ ZeroByte
IsCause text (faults.TooLong line) cause = cause ≡ TooLong
IsCause text (faults.Memory error) cause = ⊥

-- a cause in plain words up to the byte at its end, and that byte in text form, if it has one
abbrev pub cause_words : Cause → List ℕ
cause_words NoNumber = codes "a line has to begin with its number"
cause_words NumberTooLarge = codes "a line's number is at most 65535"
cause_words Tab = codes "a program cannot hold a tab: write spaces, or {$09} between quotes"
cause_words Pound = codes "pound is written \\"
cause_words Pi = codes "pi is written ~"
cause_words ArrowUp = codes "the arrow up is written ^"
cause_words ArrowLeft = codes "the arrow to the left is written _"
cause_words OtherCharacter = codes "PETSCII does not have this character; write the byte's value, as {$7c}"
cause_words OpenBrace = codes "a { has no closing }"
cause_words Number = codes "a name in braces takes no number: write {down}{down}{down} for {3 down}"
cause_words (OtherName byte) = codes "a name in braces has another spelling here: write "
cause_words UnknownName = codes "unknown name in braces; write a control code, as {clr}, or a byte's value, as {$93}"
cause_words Capital = codes "keywords and variables are written in small letters outside quotes"
cause_words Abbreviation = codes "write an abbreviation such as pO in full (poke), and a variable in small letters"
cause_words TokenByte = codes "outside quotes a byte of $80 or more would be read as a keyword"
cause_words ZeroByte = codes "a line cannot hold a byte $00"
cause_words TooLong = codes "the line is too long, or the program ends above address 65535"

abbrev pub cause_byte : Cause → Option ℕ
cause_byte (OtherName byte) = Some byte
cause_byte cause = None

-- a cause in plain words
abbrev pub cause_text : Cause → List ℕ
cause_text cause = cause_words cause ++ option_map_or (λ byte. spelling (byte ∷ [])) (cause_byte cause) []
