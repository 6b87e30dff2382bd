-- Elements of XML, and texts as they are written in them.
use Rattle.std.specs.Prelude.{◌≡◌, ◌≢◌, ℕ, ◌-◌, ◌==◌, ◌&&◌, nat_eq, nat_le, Bool, true, if◌then◌else◌, List, [], ◌∷◌, ◌++◌, length, map, take, slice_index, Option, Some, None, codes, decimal}
use Rattle.std.specs.List.{flat_map, list_any, range_with_len, starts_with}
use Rattle.std.specs.Option.{option_map_or}

-- the characters that are written as entities, each with its entity
unfoldable pub entities : List (ℕ × List ℕ)
entities =
    (38, codes "&amp;")
    ∷ (60, codes "&lt;")
    ∷ (62, codes "&gt;")
    ∷ (34, codes "&quot;")
    ∷ (39, codes "&apos;")
    ∷ []

-- the entity of a byte in this table
abbrev pub entity_in : List (ℕ × List ℕ) → ℕ → Option (List ℕ)
entity_in [] byte = None
entity_in (row ∷ rows) byte = if byte == row.0 then Some row.1 else entity_in rows byte

-- a byte of a text as it is written: as its entity, or as it is
unfoldable pub escaped_byte : ℕ → List ℕ
escaped_byte byte = option_map_or (λ entity. entity) (entity_in entities byte) (byte ∷ [])

-- a text as it is written in an element or an attribute
unfoldable pub escaped_text : List ℕ → List ℕ
escaped_text text = flat_map escaped_byte text

-- a text as it is written, as far as it fits into this many bytes; if it does not, `..` follows
unfoldable pub escaped_within : ℕ → List ℕ → List ℕ
escaped_within limit [] = []
escaped_within limit (byte ∷ text) =
    if nat_le (length (escaped_byte byte)) limit
    then escaped_byte byte ++ escaped_within (limit - length (escaped_byte byte)) text
    else codes ".."

-- at most this many bytes of a text; if it has more, `..` follows
abbrev pub shortened_text : ℕ → List ℕ → List ℕ
shortened_text count text = if nat_le (length text) count then text else take count text ++ codes ".."

-- the byte at a place is the last of U+FFFE or U+FFFF, which XML does not allow: EF BF BE or EF BF
-- BF
abbrev pub ends_no_character : List ℕ → ℕ → Bool
ends_no_character text place =
    nat_le 2 place
    && ((slice_index text (place - 2) == 0xEF) && ((slice_index text (place - 1) == 0xBF) && nat_le 0xBE (slice_index text place)))

-- a byte of a text in which U+FFFD (EF BF BD) replaces each of them
abbrev pub held_byte : List ℕ → ℕ → ℕ
held_byte text place = if ends_no_character text place then 0xBD else slice_index text place

-- a text with these replacements
unfoldable pub held_text : List ℕ → List ℕ
held_text text = map (held_byte text) (range_with_len 0 (length text))

-- an attribute
unfoldable pub attribute : List ℕ → List ℕ → List ℕ
attribute name value = codes " " ++ (name ++ (codes "=\"" ++ (value ++ codes "\"")))

-- an attribute whose value is a number
abbrev pub number_attribute : List ℕ → ℕ → List ℕ
number_attribute name number = attribute name (decimal number)

-- the tag that begins an element, without its closing bracket
unfoldable pub tag : List ℕ → List ℕ → List ℕ
tag name attributes = codes "<" ++ (name ++ attributes)

-- an element with attributes and a content
unfoldable pub element : List ℕ → List ℕ → List ℕ → List ℕ
element name attributes content = tag name attributes ++ (codes ">" ++ (content ++ (codes "</" ++ (name ++ codes ">"))))

-- an element without content
unfoldable pub empty_element : List ℕ → List ℕ → List ℕ
empty_element name attributes = tag name attributes ++ codes "/>"

-- a byte that neither begins nor ends markup: not `<`, `>`, `"` or `'`
abbrev pub IsPlain : ℕ → Type 0
IsPlain byte = (byte ≢ 60) × (byte ≢ 62) × (byte ≢ 34) × (byte ≢ 39)

-- an entity begins a text
abbrev pub begins_entity : List ℕ → Bool
begins_entity text = list_any (λ row. starts_with nat_eq text row.1) entities

-- a text that opens no tag, closes no attribute, and has a `&` only if an entity begins there
abbrev pub IsHarmless : List ℕ → Type 0
IsHarmless [] = Unit {0}
IsHarmless (byte ∷ text) = IsPlain byte × (byte ≡ 38 → begins_entity (byte ∷ text) ≡ true) × IsHarmless text

-- no name makes markup
abbrev pub NoNameMakesMarkup : Type 0
NoNameMakesMarkup = (text : List ℕ) → IsHarmless (escaped_text text)

-- nor does a name that is cut short
abbrev pub NoPartMakesMarkup : Type 0
NoPartMakesMarkup = (limit : ℕ) (text : List ℕ) → IsHarmless (escaped_within limit text)
