-- How the bytes of a line crunch.
use Rattle.std.specs.Prelude.{◌≡◌, ◌≢◌, ℕ, ◌<◌, ◌⊎◌, false, List, ◌∷◌, ◌++◌, Some, None, nat_eq}
use Rattle.std.specs.List.{starts_with, flat_map}
use Rattle.cbm_text.specs.Keywords.{keywords, token_from}
use Rattle.cbm_text.specs.Kept.{Opener, opening, IsKept}
use Rattle.cbm_text.specs.Pieces.{LinePiece, Kept, Token, Question, Single, ArePieces, crunched_piece}

-- `?`
abbrev pub question : ℕ
question = 63

-- pi
abbrev pub pi : ℕ
pi = 0xff

-- A text begins with no opener.
abbrev pub HasNoOpener : List ℕ → Type 0
HasNoOpener text = (opener : Opener) → starts_with nat_eq text (opening opener) ≡ false

-- The first piece of a text, and what follows it. If an opener is there, it is the opener and the
-- run that is kept behind it; else the first keyword in the table's order; else a `?`, with which
-- no keyword begins; else one byte that is $FF or below $80. No piece begins with another byte.
abbrev pub TextBegins : List ℕ → LinePiece → List ℕ → Type 0
TextBegins text (Kept opener run) rest = (text ≡ opening opener ++ run ++ rest) × IsKept opener run rest
TextBegins text (Token token) rest = HasNoOpener text × (token_from 128 keywords text ≡ Some (token, rest))
TextBegins text Question rest = text ≡ question ∷ rest
TextBegins text (Single byte) rest =
    HasNoOpener text × (token_from 128 keywords text ≡ None) × (text ≡ byte ∷ rest) × (byte ≢ question) × ((byte ≡ pi) ⊎ (byte < 128))

-- The text is these pieces, one after the other.
abbrev pub AreTextPieces : List ℕ → List LinePiece → Type 0
AreTextPieces text pieces = ArePieces TextBegins text pieces

-- The bytes of a line crunch to these.
unfoldable pub Crunched : List ℕ → List ℕ → Type 0
Crunched text codes = (pieces : List LinePiece) × AreTextPieces text pieces × (codes ≡ flat_map crunched_piece pieces)
