-- The pieces of a line.
use Rattle.std.specs.Prelude.{◌≡◌, ℕ, List, [], ◌∷◌, ◌++◌, codes}
use Rattle.std.specs.Option.{option_map_or}
use Rattle.cbm_text.specs.Keywords.{keyword}
use Rattle.cbm_text.specs.Kept.{Opener, opening, opener_byte}

-- A piece of a line: an opener and the run behind it; another keyword's token; a `?`, short for
-- `print`; or another byte.
pub data LinePiece : Type 0 where
  Kept : Opener → List ℕ → LinePiece
  Token : ℕ → LinePiece
  Question : LinePiece
  Single : ℕ → LinePiece

-- the token of `print`
abbrev pub print_token : ℕ
print_token = 0x99

-- A piece's bytes in a text.
abbrev pub written_piece : LinePiece → List ℕ
written_piece (Kept opener run) = opening opener ++ run
written_piece (Token token) = option_map_or (λ word. word) (keyword token) []
written_piece Question = codes "?"
written_piece (Single byte) = byte ∷ []

-- The crunched bytes of a piece in a program.
abbrev pub crunched_piece : LinePiece → List ℕ
crunched_piece (Kept opener run) = opener_byte opener ∷ run
crunched_piece (Token token) = token ∷ []
crunched_piece Question = print_token ∷ []
crunched_piece (Single byte) = byte ∷ []

-- Bytes are these pieces in turn, by a relation of bytes to their first piece and the rest.
unfoldable pub ArePieces : (List ℕ → LinePiece → List ℕ → Type 0) → List ℕ → List LinePiece → Type 0
ArePieces Begins bytes [] = bytes ≡ []
ArePieces Begins bytes (piece ∷ pieces) = (rest : List ℕ) × Begins bytes piece rest × ArePieces Begins rest pieces
