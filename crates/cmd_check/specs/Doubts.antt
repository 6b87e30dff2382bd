-- The names of what makes an image doubtful, as JSON and CSV have them.
use Rattle.std.specs.Prelude.{ℕ, List, [], ◌∷◌, ◌++◌, codes}
use Rattle.std.specs.List.{flat_map}
use Rattle.json.specs.Json.{Json, string}
use Rattle.d64_survey.specs.declared.doubt.Doubt.{Doubt}
use Rattle.d64_survey.specs.declared.doubt.Doubt.TheVariants.{Version, Blank, Unowned, Filler}

-- the name of a doubt
abbrev pub doubt_word : Doubt → List ℕ
doubt_word Version = codes "version"
doubt_word Blank = codes "blank"
doubt_word Unowned = codes "unowned"
doubt_word Filler = codes "filler"

-- the name of a doubt as a value
abbrev pub doubt_value : Doubt → Json
doubt_value doubt = string (doubt_word doubt)

-- the name of a doubt that is not the first, after a space
abbrev pub next_word : Doubt → List ℕ
next_word doubt = codes " " ++ doubt_word doubt

-- the names of doubts, with a space between them
unfoldable pub doubt_names_text : List Doubt → List ℕ
doubt_names_text [] = []
doubt_names_text (doubt ∷ doubts) = doubt_word doubt ++ flat_map next_word doubts
