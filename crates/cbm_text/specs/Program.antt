-- Programs and their files.
use Rattle.std.specs.Prelude.{◌≡◌, ℕ, ◌+◌, ◌/◌, ◌%◌, ◌^◌, ◌<◌, List, [], ◌∷◌, ◌++◌, length, Contains}

-- A line of a program: number and bytes.
pub record ProgramLine : Type 0 where
  pub number : ℕ
  pub bytes : List ℕ

-- A list of lines.
abbrev pub Program : Type 0
Program = List ProgramLine

-- A number in two bytes, low first.
abbrev pub word : ℕ → List ℕ
word n = n % 256 ∷ n / 256 ∷ []

-- The address behind a line at an address: between them are its link, its number, its bytes and a
-- $00.
abbrev pub address_behind : ℕ → List ℕ → ℕ
address_behind at bytes = at + length bytes + 5

-- The bytes of a line at an address: the link to what follows it, its number, its bytes, $00.
abbrev pub line_layout : ℕ → ProgramLine → List ℕ
line_layout at line = word (address_behind at line.bytes) ++ word line.number ++ line.bytes ++ 0 ∷ []

-- The lines of a program from an address on, and the end mark.
unfoldable pub lines_layout : ℕ → Program → List ℕ
lines_layout at [] = word 0
lines_layout at (line ∷ lines) = line_layout at line ++ lines_layout (address_behind at line.bytes) lines

-- The file of a program with right links: the load address, and the lines from there on.
abbrev pub layout : ℕ → Program → List ℕ
layout start program = word start ++ lines_layout start program

-- The bytes begin with any link but $00 $00, the line's number, its bytes and a $00; then comes the
-- rest.
pub record BeginsLine (bytes : List ℕ) (line : ProgramLine) (rest : List ℕ) : Type 0 where
  pub low : ℕ
  pub high : ℕ
  pub joined : bytes ≡ low ∷ high ∷ word line.number ++ line.bytes ++ 0 ∷ rest
  pub link : ¬ ((low ≡ 0) × (high ≡ 0))
  pub number : line.number < 2 ^ 16
  pub no_zero : ¬ (Contains line.bytes 0)

-- The bytes read as these lines, then the end mark, then anything.
unfoldable pub LinesRead : List ℕ → Program → Type 0
LinesRead bytes [] = (behind : List ℕ) × (bytes ≡ 0 ∷ 0 ∷ behind)
LinesRead bytes (line ∷ lines) = (rest : List ℕ) × BeginsLine bytes line rest × LinesRead rest lines

-- The file reads as the program, after any two bytes.
unfoldable pub ReadsProgram : List ℕ → Program → Type 0
ReadsProgram file program = (low high : ℕ) × (lines : List ℕ) × (file ≡ low ∷ high ∷ lines) × LinesRead lines program
