-- The faulty lines of a BASIC text.
use Rattle.std.specs.Prelude.{◌≡◌, ℕ, ◌+◌, ◌⊎◌, true, false, List, [], ◌∷◌, ◌++◌, take, Result, Ok, Err}
use Rattle.script_text.specs.RawLines.{lines_of, text_of, is_skipped}
use Rattle.cbm_text.specs.declared.fault.BasicFault.{BasicFault}
use Rattle.cbm_text.specs.declared.faulty_text.FaultyLine.{FaultyLine}
use Rattle.cbm_text.specs.Program.{ProgramLine, address_behind}
use Rattle.cbm_text.specs.BasicText.{IsLine, HasFault}
use Rattle.cbm_text.specs.Causes.{IsCause}

-- a text line with this number is faulty at an address, with its first fault and what is wrong
pub record IsFaulty (at number : ℕ) (text : List ℕ) (line : FaultyLine) : Type 0 where
  pub fault : HasFault at number text line.fault
  pub cause : IsCause text line.fault line.cause
  pub shown : line.text.now ≡ text

-- the address behind a text line, and the faulty lines that are kept, the first `most` of them, by
-- what was made of the line at its address
abbrev pub IsNoted : ℕ → List ℕ → ℕ → Result ℕ BasicFault → List FaultyLine → ℕ → List FaultyLine → Type 0
IsNoted at text most (Ok behind) old next new = (next ≡ behind) × (new ≡ old)
IsNoted at text most (Err fault) old next new =
    (next ≡ at) × (line : FaultyLine) × (line.fault ≡ fault) × IsCause text fault line.cause × (line.text.now ≡ text) × (new ≡ take most (old ++ line ∷ []))

-- the faulty ones of some raw lines, the first of which has this number, if the first program line
-- that they give is at an address; a faulty line adds nothing to the program
unfoldable pub AreFaulty : ℕ → ℕ → List (List ℕ) → List FaultyLine → Type 0
AreFaulty at number [] lines = lines ≡ []
AreFaulty at number (raw ∷ raws) lines = ((is_skipped (text_of raw) ≡ true) × AreFaulty at (number + 1) raws lines)
    ⊎ ((is_skipped (text_of raw) ≡ false) × (((line : ProgramLine) × IsLine at (text_of raw) line × AreFaulty (address_behind at line.bytes) (number + 1) raws lines)
    ⊎ ((first : FaultyLine) × (more : List FaultyLine) × (lines ≡ first ∷ more) × IsFaulty at number (text_of raw) first × AreFaulty at (number + 1) raws more)))

-- the faulty lines of a text, lines counted from 1
abbrev pub AreFaultyIn : ℕ → List ℕ → List FaultyLine → Type 0
AreFaultyIn start text lines = AreFaulty start 1 (lines_of text) lines
