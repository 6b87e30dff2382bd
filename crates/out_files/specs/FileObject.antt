-- What is printed of a used slot as JSON.
use Rattle.std.specs.Prelude.{ℕ, Bool, List, [], ◌∷◌, ◌++◌, map, Option, codes}
use Rattle.std.specs.Option.{option_map_or}
use Rattle.json.specs.Json.{Json, boolean, null, string}
use Rattle.hex.specs.Hex.{encode_lower}
use Rattle.d64_image.specs.Disk.{Bytes}
use Rattle.d64_files.specs.Name.{name_in}
use Rattle.d64_files.specs.declared.kind.Kind.{Kind}
use Rattle.d64_survey.specs.declared.flaw.Flaw.{Flaw}
use Rattle.d64_inventory.specs.Rows.{FileRowView}
use Rattle.d64_inventory.specs.declared.row.Content.{Content}
use Rattle.out_json_csv.specs.Values.{Field, array_of, numeral, numeral_or_null}
use Rattle.out_json_csv.specs.Names.{name_value}
use Rattle.out_json_csv.specs.Pairs.{pair_field}
use Rattle.out_messages.specs.FileText.{kind_letters}
use Rattle.out_files.specs.FlawWords.{flaw_word}

-- the three letters of a kind; null if there is none
abbrev pub kind_value : Option Kind → Json
kind_value kind = option_map_or (λ kind. string (kind_letters kind)) kind null

-- true or false; null if it is not known
abbrev pub boolean_or_null : Option Bool → Json
boolean_or_null truth = option_map_or (λ truth. boolean truth) truth null

-- how many bytes a content has; null if there is no content
abbrev pub bytes_value : Option Content → Json
bytes_value content = option_map_or (λ content. numeral content.bytes) content null

-- the digest of a content in hexadecimal digits; null if there is no content
abbrev pub digest_value : Option Content → Json
digest_value content = option_map_or (λ content. string (encode_lower content.digest)) content null

-- a reason why a file is not whole
abbrev pub flaw_value : Flaw → Json
flaw_value flaw = string (flaw_word flaw)

-- the name, and the field in which it is
abbrev pub name_members : Bytes → List Field
name_members field = (codes "name", name_value (name_in field)) ∷ (codes "field", string (encode_lower field)) ∷ []

-- the kind, and the type byte with what it says of the file: that it is closed, and locked
abbrev pub type_members : Option Kind → ℕ → Bool → Bool → List Field
type_members kind type closed locked =
    (codes "kind", kind_value kind) ∷ (codes "type", numeral type) ∷ (codes "closed", boolean closed) ∷ (codes "locked", boolean locked) ∷ []

-- the size that the directory gives, the pair of the first block, and the length of a record
abbrev pub entry_members : ℕ → ℕ × ℕ → Option ℕ → List Field
entry_members size first record_length =
    (codes "size", numeral size) ∷ (codes "first", string (pair_field first)) ∷ (codes "record", numeral_or_null record_length) ∷ []

-- how many blocks the data chain and the side chain have
abbrev pub way_members : Option ℕ → Option ℕ → List Field
way_members blocks side = (codes "blocks", numeral_or_null blocks) ∷ (codes "side", numeral_or_null side) ∷ []

-- the content
abbrev pub content_members : Option Content → List Field
content_members content = (codes "bytes", bytes_value content) ∷ (codes "sha256", digest_value content) ∷ []

-- whether the file is whole, why not, the conditions that it breaks, and how many of its blocks
-- have a read error
abbrev pub file_state_members : FileRowView → List Field
file_state_members row =
    (codes "whole", boolean_or_null row.whole) ∷ (codes "why", array_of (map flaw_value row.why)) ∷ (codes "conditions", array_of (map numeral row.conditions))
    ∷ (codes "read_errors", numeral row.read_errors) ∷ []

-- the members of a file, without the image and the slot
unfoldable pub file_members : FileRowView → List Field
file_members row =
    name_members row.field
    ++ (type_members row.kind row.type_byte row.closed row.locked
    ++ (entry_members row.size row.first row.record_length
    ++ (way_members row.blocks row.side
    ++ (content_members row.content
    ++ file_state_members row))))
