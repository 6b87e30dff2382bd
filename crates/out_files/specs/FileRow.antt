-- What is printed of a used slot as CSV.
use Rattle.std.specs.Prelude.{ℕ, Bool, List, [], ◌∷◌, ◌++◌, Option, codes, decimal}
use Rattle.std.specs.List.{flat_map}
use Rattle.std.specs.Option.{option_map_or}
use Rattle.hex.specs.Hex.{encode_lower}
use Rattle.petscii.specs.Spelling.{spelling}
use Rattle.d64_image.specs.Disk.{Bytes}
use Rattle.d64_files.specs.Name.{name_in}
use Rattle.d64_files.specs.declared.kind.Kind.{Kind}
use Rattle.d64_inventory.specs.Rows.{FileRowView}
use Rattle.d64_inventory.specs.declared.row.Content.{Content}
use Rattle.out_json_csv.specs.Pairs.{pair_field}
use Rattle.out_json_csv.specs.Rows.{truth_text}
use Rattle.out_messages.specs.FileText.{kind_letters}
use Rattle.out_files.specs.FlawWords.{flaw_word}

-- a number in decimal; empty if there is none
abbrev pub decimal_or_empty : Option ℕ → List ℕ
decimal_or_empty number = option_map_or decimal number []

-- `true` or `false`; empty if it is not known
abbrev pub truth_or_empty : Option Bool → List ℕ
truth_or_empty truth = option_map_or truth_text truth []

-- a text with a space before it
abbrev pub after_space : List ℕ → List ℕ
after_space text = codes " " ++ text

-- the texts of things with a space between them
unfoldable pub spaced_texts : {X : Type 0} → (X → List ℕ) → List X → List ℕ
spaced_texts text [] = []
spaced_texts text (x ∷ xs) = text x ++ flat_map (λ y. after_space (text y)) xs

-- the name, and the field in which it is
abbrev pub name_fields : Bytes → List (List ℕ)
name_fields field = spelling (name_in field) ∷ encode_lower field ∷ []

-- the kind, and the type byte with what it says of the file: that it is closed, and locked
abbrev pub type_fields : Option Kind → ℕ → Bool → Bool → List (List ℕ)
type_fields kind type closed locked = option_map_or kind_letters kind [] ∷ decimal type ∷ truth_text closed ∷ truth_text locked ∷ []

-- the size that the directory gives, the pair of the first block, and the length of a record
abbrev pub entry_fields : ℕ → ℕ × ℕ → Option ℕ → List (List ℕ)
entry_fields size first record_length = decimal size ∷ pair_field first ∷ decimal_or_empty record_length ∷ []

-- how many blocks the data chain and the side chain have
abbrev pub way_fields : Option ℕ → Option ℕ → List (List ℕ)
way_fields blocks side = decimal_or_empty blocks ∷ decimal_or_empty side ∷ []

-- the content: how many bytes, and their digest
abbrev pub content_fields : Option Content → List (List ℕ)
content_fields content =
    option_map_or (λ (content : Content). decimal content.bytes) content [] ∷ option_map_or (λ (content : Content). encode_lower content.digest) content [] ∷ []

-- whether the file is whole, why not, the conditions that it breaks, and how many of its blocks
-- have a read error
abbrev pub file_state_fields : FileRowView → List (List ℕ)
file_state_fields row = truth_or_empty row.whole ∷ spaced_texts flaw_word row.why ∷ spaced_texts decimal row.conditions ∷ decimal row.read_errors ∷ []

-- the fields of a file, without the image and the slot
unfoldable pub file_fields : FileRowView → List (List ℕ)
file_fields row =
    name_fields row.field
    ++ (type_fields row.kind row.type_byte row.closed row.locked
    ++ (entry_fields row.size row.first row.record_length
    ++ (way_fields row.blocks row.side
    ++ (content_fields row.content
    ++ file_state_fields row))))
