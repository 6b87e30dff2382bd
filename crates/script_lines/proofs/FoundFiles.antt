-- The file that a pattern finds.
use Rattle.std.proofs.Common.{◌≡◌, ℕ, List, [], Option, sym, ap, ◌∙◌}
use Rattle.std.specs.Option.{option_map_or}
use Rattle.d64_files.specs.Reading.{content_at}
use Rattle.d64_dos.specs.Reading.{name_at, IsReadBack}
use Rattle.script_lines.specs.FoundFile.{found_name, found_content}

-- the name and the content of a file that was read are those of the file that the pattern finds
pub found_name-read : (image : List (List ℕ)) (pattern name bytes : List ℕ) → IsReadBack image pattern name bytes → name ≡ found_name image pattern
found_name-read image pattern name bytes back = back.is_name ∙ ap (λ (slot : Option ℕ). option_map_or (name_at image) slot []) (sym back.found)

pub found_content-read : (image : List (List ℕ)) (pattern name bytes : List ℕ) → IsReadBack image pattern name bytes → bytes ≡ found_content image pattern
found_content-read image pattern name bytes back = back.is_content ∙ ap (λ (slot : Option ℕ). option_map_or (content_at image) slot []) (sym back.found)
