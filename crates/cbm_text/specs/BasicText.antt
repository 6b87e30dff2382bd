-- The program that a BASIC text stands for, and the faults of a text that stands for no program.
use Rattle.std.specs.Prelude.{◌≡◌, ◌≢◌, ℕ, ◌+◌, ◌^◌, ◌<◌, ◌≤◌, ◌⊎◌, true, false, List, [], ◌∷◌, length, Contains, Option, Some, None, MatchOption}
use Rattle.petscii.specs.TextForm.{IsTextOf}
use Rattle.petscii.specs.TextFault as text_faults
use Rattle.script_text.specs.RawLines.{lines_of, text_of, is_skipped}
use Rattle.cbm_text.specs.declared.fault.BasicFault.{BasicFault}
use Rattle.cbm_text.specs.declared.fault.BasicFault.TheVariants.{NoNumber, NumberTooLarge, Text, TokenByte, ZeroByte, TooLong, Memory}
use Rattle.cbm_text.specs.Crunching.{Crunched}
use Rattle.cbm_text.specs.Program.{ProgramLine, Program, address_behind, layout}
use Rattle.cbm_text.specs.TextLine.{number_digits, line_number, rest_of}

-- The most crunched bytes of a line, and the greatest link.
abbrev pub most_bytes : ℕ
most_bytes = 250

abbrev pub greatest_link : ℕ
greatest_link = 65535

-- The text line has a number that fits.
pub record IsNumbered (text : List ℕ) : Type 0 where
  pub some : number_digits text ≢ []
  pub small : line_number text < 2 ^ 16

-- The text line has a number that fits, and the rest of it stands for bytes.
pub record IsTextLineRead (text bytes : List ℕ) : Type 0 where
  pub numbered : IsNumbered text
  pub read : IsTextOf bytes (rest_of text)

-- The text line has such bytes, and they crunch.
pub record IsCrunched (text bytes codes : List ℕ) : Type 0 where
  pub read : IsTextLineRead text bytes
  pub crunched : Crunched bytes codes

-- A line of these crunched bytes at an address is too long, or the link behind it is above 65535.
abbrev pub IsTooLong : ℕ → List ℕ → Type 0
IsTooLong at codes = (most_bytes < length codes) ⊎ (greatest_link < address_behind at codes)

-- A text line is this line of a program, at an address.
pub record IsLine (at : ℕ) (text : List ℕ) (line : ProgramLine) : Type 0 where
  pub bytes : List ℕ
  pub crunched : IsCrunched text bytes line.bytes
  pub number : line.number ≡ line_number text
  pub no_zero : ¬ (Contains bytes 0)
  pub short : length line.bytes ≤ most_bytes
  pub linked : address_behind at line.bytes ≤ greatest_link

-- The first fault of the text line with this number, at an address.
abbrev pub HasFault : ℕ → ℕ → List ℕ → BasicFault → Type 0
HasFault at number text (NoNumber line) = (line ≡ number) × (number_digits text ≡ [])
HasFault at number text (NumberTooLarge line) = (line ≡ number) × (number_digits text ≢ []) × (2 ^ 16 ≤ line_number text)
HasFault at number text (Text line fault) = (line ≡ number) × IsNumbered text × text_faults.IsFirstTextFault (rest_of text) fault
HasFault at number text (TokenByte line) = (line ≡ number) × (bytes : List ℕ) × IsTextLineRead text bytes × ((codes : List ℕ) → ¬ (Crunched bytes codes))
HasFault at number text (ZeroByte line) = (line ≡ number) × (bytes codes : List ℕ) × IsCrunched text bytes codes × Contains bytes 0
HasFault at number text (TooLong line) = (line ≡ number) × (bytes codes : List ℕ) × IsCrunched text bytes codes × ¬ (Contains bytes 0) × IsTooLong at codes
HasFault at number text (Memory error) = ⊥

-- The raw lines of a text give this program, if the first line of it is at an address. Empty lines,
-- lines of spaces and comments give nothing.
unfoldable pub AreLines : ℕ → List (List ℕ) → Program → Type 0
AreLines at [] program = program ≡ []
AreLines at (raw ∷ raws) program = ((is_skipped (text_of raw) ≡ true) × AreLines at raws program)
    ⊎ ((is_skipped (text_of raw) ≡ false) × (line : ProgramLine) × (lines : Program) × (program ≡ line ∷ lines) × IsLine at (text_of raw) line × AreLines (address_behind at line.bytes) raws lines)

-- The fault of the first faulty one of some raw lines, the first of which has this number, if the
-- first program line that they give is at an address.
unfoldable pub FaultsFirst : ℕ → ℕ → List (List ℕ) → BasicFault → Type 0
FaultsFirst at number [] fault = ⊥
FaultsFirst at number (raw ∷ raws) fault = ((is_skipped (text_of raw) ≡ true) × FaultsFirst at (number + 1) raws fault)
    ⊎ ((is_skipped (text_of raw) ≡ false) × (HasFault at number (text_of raw) fault
    ⊎ ((line : ProgramLine) × IsLine at (text_of raw) line × FaultsFirst (address_behind at line.bytes) (number + 1) raws fault)))

-- The text stands for this program, loaded at a start address.
abbrev pub IsProgramOf : ℕ → List ℕ → Program → Type 0
IsProgramOf start text program = AreLines start (lines_of text) program

-- The file is that of the text's program.
unfoldable pub IsFileOf : ℕ → List ℕ → List ℕ → Type 0
IsFileOf start text file = (program : Program) × IsProgramOf start text program × (file ≡ layout start program)

-- The first fault of the first faulty line, lines counted from 1.
abbrev pub IsFirstBasicFault : ℕ → List ℕ → BasicFault → Type 0
IsFirstBasicFault start text fault = FaultsFirst start 1 (lines_of text) fault

-- The fault is that there was no memory.
abbrev pub IsBasicOutOfMemory : BasicFault → Type 0
IsBasicOutOfMemory (Memory error) = Unit {0}
IsBasicOutOfMemory fault = ⊥

-- The numbers of the faults, and the text line of each.
abbrev pub basic_fault_number : BasicFault → ℕ
basic_fault_number (NoNumber line) = 1
basic_fault_number (NumberTooLarge line) = 2
basic_fault_number (Text line fault) = 3
basic_fault_number (TokenByte line) = 4
basic_fault_number (ZeroByte line) = 5
basic_fault_number (TooLong line) = 6
basic_fault_number (Memory error) = 7

abbrev pub basic_fault_line : BasicFault → Option ℕ
basic_fault_line (NoNumber line) = Some line
basic_fault_line (NumberTooLarge line) = Some line
basic_fault_line (Text line fault) = Some line
basic_fault_line (TokenByte line) = Some line
basic_fault_line (ZeroByte line) = Some line
basic_fault_line (TooLong line) = Some line
basic_fault_line (Memory error) = None

-- The line of a fault is one of the text's lines, the first of which is 1, and a text has no more
-- lines than bytes. The fault that memory is out has no line.
abbrev pub NamesLine : List ℕ → BasicFault → Type 0
NamesLine text fault = MatchOption (basic_fault_line fault) (IsBasicOutOfMemory fault) (λ line. (1 ≤ line) × (line ≤ length (lines_of text)) × (line ≤ length text))
