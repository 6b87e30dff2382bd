-- How programs are listed.
use Rattle.std.specs.Prelude.{◌≡◌, ◌≢◌, ℕ, List, [], ◌∷◌, ◌++◌, None, decimal, codes}
use Rattle.std.specs.List.{flat_map}
use Rattle.petscii.specs.Spelling.{spelling}
use Rattle.cbm_text.specs.Keywords.{keyword}
use Rattle.cbm_text.specs.Kept.{Opener, opener_byte, IsKept}
use Rattle.cbm_text.specs.Pieces.{LinePiece, Kept, Token, Question, Single, ArePieces, written_piece}
use Rattle.cbm_text.specs.Program.{Program, ReadsProgram}

-- The crunched byte opens no run.
abbrev pub IsNoOpener : ℕ → Type 0
IsNoOpener code = (opener : Opener) → code ≢ opener_byte opener

-- The first piece of crunched bytes, and the rest: an opener and the run behind it, else the token
-- of a keyword, else one byte.
abbrev pub CodesBegin : List ℕ → LinePiece → List ℕ → Type 0
CodesBegin codes (Kept opener run) rest = (codes ≡ opener_byte opener ∷ run ++ rest) × IsKept opener run rest
CodesBegin codes (Token token) rest = IsNoOpener token × (keyword token ≢ None) × (codes ≡ token ∷ rest)
CodesBegin codes Question rest = ⊥
CodesBegin codes (Single byte) rest = IsNoOpener byte × (keyword byte ≡ None) × (codes ≡ byte ∷ rest)

-- The crunched bytes are these pieces in turn.
abbrev pub AreCodePieces : List ℕ → List LinePiece → Type 0
AreCodePieces codes pieces = ArePieces CodesBegin codes pieces

-- The crunched bytes of a line stand for these bytes.
unfoldable pub Listed : List ℕ → List ℕ → Type 0
Listed codes bytes = (pieces : List LinePiece) × AreCodePieces codes pieces × (bytes ≡ flat_map written_piece pieces)

-- A line as text: its number in decimal, a space, its bytes in text form, LF.
abbrev pub line_text : ℕ → List ℕ → List ℕ
line_text number bytes = decimal number ++ codes " " ++ spelling bytes ++ codes "\n"

-- A program as text, line by line.
unfoldable pub IsListing : Program → List ℕ → Type 0
IsListing [] text = text ≡ []
IsListing (line ∷ lines) text = (bytes rest : List ℕ) × Listed line.bytes bytes × IsListing lines rest × (text ≡ line_text line.number bytes ++ rest)

-- The text lists the program that the file reads as.
unfoldable pub Lists : List ℕ → List ℕ → Type 0
Lists file text = (program : Program) × ReadsProgram file program × IsListing program text
