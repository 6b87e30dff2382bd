-- The statements of the laws.
use Rattle.std.specs.Prelude.{◌≡◌, ℕ, false, List, All, Contains}
use Rattle.petscii.specs.TextForm.{IsTextOf}
use Rattle.script_text.specs.RawLines.{lines_of, text_of, is_skipped}
use Rattle.cbm_text.specs.declared.fault.BasicFault.{BasicFault}
use Rattle.cbm_text.specs.Pieces.{LinePiece, Question}
use Rattle.cbm_text.specs.Crunching.{AreTextPieces, Crunched}
use Rattle.cbm_text.specs.Program.{Program, ReadsProgram}
use Rattle.cbm_text.specs.Listing.{Listed, Lists}
use Rattle.cbm_text.specs.TextLine.{rest_of}
use Rattle.cbm_text.specs.BasicText.{IsProgramOf, IsFileOf, IsFirstBasicFault}
use Rattle.cbm_text.specs.NormalText.{IsNormalOf}

-- ---- lines

-- The bytes of a line crunch in at most one way.
abbrev pub CrunchesOnce : List ℕ → Type 0
CrunchesOnce text = (codes other : List ℕ) → Crunched text codes → Crunched text other → codes ≡ other

-- The crunched bytes of a line stand for exactly one list of bytes.
pub record ListsOnce (codes : List ℕ) : Type 0 where
  pub some : (bytes : List ℕ) × Listed codes bytes
  pub once : (bytes other : List ℕ) → Listed codes bytes → Listed codes other → bytes ≡ other

-- No `?` stands for `print` in the bytes of a line.
abbrev pub HasNoFreeQuestion : List ℕ → Type 0
HasNoFreeQuestion text = (pieces : List LinePiece) → AreTextPieces text pieces → ¬ (Contains pieces Question)

-- What the bytes of a line without a free `?` crunch to stands for these bytes.
abbrev pub ComesBack : List ℕ → List ℕ → Type 0
ComesBack text codes = HasNoFreeQuestion text → Crunched text codes → Listed codes text

-- ---- programs and texts

-- A file reads as at most one program, and has at most one listing.
pub record ReadsOnce (file : List ℕ) : Type 0 where
  pub program : (program other : Program) → ReadsProgram file program → ReadsProgram file other → program ≡ other
  pub listing : (text other : List ℕ) → Lists file text → Lists file other → text ≡ other

-- A text stands for at most one program and has at most one file, no fault if it has a file, and at
-- most one first fault.
pub record IsUnambiguous (start : ℕ) (text : List ℕ) : Type 0 where
  pub program : (program other : Program) → IsProgramOf start text program → IsProgramOf start text other → program ≡ other
  pub file : (file other : List ℕ) → IsFileOf start text file → IsFileOf start text other → file ≡ other
  pub no_fault : (file : List ℕ) (fault : BasicFault) → IsFileOf start text file → ¬ (IsFirstBasicFault start text fault)
  pub fault : (fault other : BasicFault) → IsFirstBasicFault start text fault → IsFirstBasicFault start text other → fault ≡ other

-- No `?` stands for `print` in the lines of a text.
abbrev pub LinesHaveNoFreeQuestion : List ℕ → Type 0
LinesHaveNoFreeQuestion text =
    All (λ raw. is_skipped (text_of raw) ≡ false → (bytes : List ℕ) → IsTextOf bytes (rest_of (text_of raw)) → HasNoFreeQuestion bytes) (lines_of text)

-- The file of a text can be listed, and its listing is the normal spelling of the text and crunches
-- to this file again.
pub record ComesBackWhole (start : ℕ) (text file : List ℕ) : Type 0 where
  pub listed : (listing : List ℕ) × Lists file listing
  pub normal : (listing : List ℕ) → Lists file listing → IsNormalOf text listing
  pub again : (listing : List ℕ) → Lists file listing → IsFileOf start listing file

-- A text without a `?` for `print` comes back whole.
abbrev pub TextComesBack : ℕ → List ℕ → Type 0
TextComesBack start text = (file : List ℕ) → LinesHaveNoFreeQuestion text → IsFileOf start text file → ComesBackWhole start text file
