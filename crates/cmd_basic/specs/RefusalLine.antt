-- The line of a refused input, in the form of compilers.
use Rattle.std.specs.Prelude.{ℕ, ◌-◌, List, [], ◌++◌, length, take, codes, decimal, Option, unwrap_or}
use Rattle.std.specs.Option.{option_map_or}
use Rattle.script_lines.specs.Status.{status_line}
use Rattle.script_lines.specs.declared.status.Status.{Status}
use Rattle.host_storage.specs.Shown.{shown_name}

-- the name of the input: that of its file, or `-` for the standard input
abbrev pub input_name : Option (List ℕ) → List ℕ
input_name name = unwrap_or name (codes "-")

-- the place of a refusal: the input, and the number of the refused line, if it is one line
abbrev pub refusal_place : Option (List ℕ) → Option ℕ → List ℕ
refusal_place name line = shown_name (input_name name) ++ option_map_or (λ number. codes ":" ++ decimal number) line []

-- the text of a status: its line without the line feed
abbrev pub status_text : Status → List ℕ
status_text status = take (length (status_line status) - 1) (status_line status)

-- the line of a refusal: its place, the status, and what is wrong
unfoldable pub refusal_line : Option (List ℕ) → Option ℕ → Status → List ℕ → List ℕ
refusal_line name line status text = refusal_place name line ++ (codes ": " ++ (status_text status ++ (codes ": " ++ (text ++ codes "\n"))))
