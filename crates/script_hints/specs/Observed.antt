-- What is said of a line that was observed, and when.
use Rattle.std.specs.Prelude.{◌≡◌, ℕ, ◌+◌, ◌-◌, ◌^◌, min, Bool, true, false, if◌then◌else◌, ◌⊎◌, ◌&&◌, ◌||◌, not, List, [], ◌∷◌, Option, Some, codes}
use Rattle.std.specs.Str.{bytes_eq}
use Rattle.host_storage.specs.Files.{HostState}
use Rattle.host_storage.specs.Output.{Account, Writes}
use Rattle.d64_image.specs.Disk.{Bytes, Disk}
use Rattle.script_text.specs.RawLines.{is_too_long, text_of}
use Rattle.script_lines.specs.Status.{is_accepted}
use Rattle.script_lines.specs.declared.status.Status.{Status}
use Rattle.script_lines.specs.declared.status.Status.TheVariants.{UnknownCommand}
use Rattle.script_lines.specs.declared.line_command.LineCommand.{LineCommand}
use Rattle.script_lines.specs.declared.line_command.LineCommand.TheVariants.{Undo, Redo}
use Rattle.script_advice.specs.LineParts.{parts_of_line}
use Rattle.script_advice.specs.Refusal.{MaySay}
use Rattle.script_advice.specs.Remark.{IsRemark}
use Rattle.script_commands.specs.declared.observer.Refusals.{Refusals}
use Rattle.script_commands.specs.declared.observer.Refusals.TheVariants.{GoOn, Stop}
use Rattle.script_hints.specs.LineStart.{line_start}
use Rattle.script_hints.specs.Past.{redone_line, undone_line}

-- whether a refused line ends its script
abbrev pub stops_at_refusal : Refusals → Bool
stops_at_refusal GoOn = false
stops_at_refusal Stop = true

-- the text of a raw line that is shown: if it is too long, its first bytes
abbrev pub shown_raw_text : Bytes → Bytes → Bytes
shown_raw_text raw first = if is_too_long raw then first else text_of raw

-- what may come before the explanation of a line with this number and text: the program's name, and
-- if lines are named by their numbers the line too, unless there is no memory for that
abbrev pub MayStart : Bool → ℕ → Bytes → Bytes → Type 0
MayStart is_numbered number text start = (start ≡ codes "d64sh: ") ⊎ ((is_numbered ≡ true) × (start ≡ line_start number text))

-- what else may be said of a line that ended with a status and left an image, on a disk that listed
-- this many files before: nothing, if memory was out
abbrev pub MayRemark : Bytes → Status → Disk → ℕ → Bytes → Type 0
MayRemark raw status image files said = (said ≡ []) ⊎ IsRemark (shown_raw_text raw []) (parts_of_line raw) status image files said

-- a line that is no command asks which commands there are
abbrev pub asks_for_help : Bytes → Status → Bool
asks_for_help raw UnknownCommand = bytes_eq (parts_of_line raw).command (codes "help") || bytes_eq (parts_of_line raw).command (codes "?")
asks_for_help raw status = false

-- these texts were written one after another, and of each all, or if a write failed a first part
unfoldable pub WritesEach : Account → Account → List Bytes → Type 0
WritesEach old new [] = new ≡ old
WritesEach old new (text ∷ texts) = (middle : Account) × Writes old middle text × WritesEach middle new texts

-- whether it is said why a line was refused: if lines are named by their numbers, or are typed,
-- unless this one asks which commands there are
abbrev pub is_explained : Bool → Bool → Bytes → Status → Bool
is_explained is_numbered is_typed raw status = not (is_accepted status) && (is_numbered || (is_typed && not (asks_for_help raw status)))

-- what is said of why a line with a number was refused, if it is said
abbrev pub Explains : Bool → HostState → Bool → ℕ → Bytes → Bytes → Status → Disk → List Bytes → Type 0
Explains false host is_numbered number first raw status image texts = texts ≡ []
Explains true host is_numbered number first raw status image texts =
    (start said : Bytes) × MayStart is_numbered number (shown_raw_text raw first) start × MaySay host image start (parts_of_line raw) status said × (texts ≡ said ∷ [])

-- these lines, if that is so
abbrev pub lines_if : Bool → Bytes → List Bytes
lines_if is_so lines = if is_so then lines ∷ [] else []

-- whether more is said of a line: if lines are typed, and either it was accepted or the script may
-- go on
abbrev pub is_remarked : Bool → Bool → Status → Bool
is_remarked is_numbered is_typed status = is_typed && (is_accepted status || not is_numbered)

-- what more is said of a line, if it is said
abbrev pub Remarks : Bool → Bytes → Status → Disk → ℕ → List Bytes → Type 0
Remarks false raw status image files texts = texts ≡ []
Remarks true raw status image files texts = (said : Bytes) × MayRemark raw status image files said × (texts ≡ said ∷ [])

-- which change was undone or redone by a command, by what is known of either, if it is said
abbrev pub named_changes : Bool → Option LineCommand → Option Bytes → Option Bytes → List Bytes
named_changes true (Some Undo) before after = undone_line before ∷ []
named_changes true (Some Redo) before after = redone_line after ∷ []
named_changes is_said command before after = []

-- the number of lines with one more, up to the greatest of 64 bits
abbrev pub one_more_line : ℕ → ℕ
one_more_line count = min (count + 1) (2 ^ 64 - 1)
