-- The faults of a line whose number fits.
use Rattle.std.specs.Prelude.{◌≡◌, ℕ, ◌≤◌, List, length, Contains}
use Rattle.petscii.specs.declared.fault.TextFault.{TextFault}
use Rattle.petscii.specs.declared.fault.TextFault.TheVariants as text_faults
use Rattle.cbm_text.specs.declared.fault.BasicFault.{BasicFault}
use Rattle.cbm_text.specs.declared.fault.BasicFault.TheVariants.{Text, ZeroByte, TooLong, Memory}
use Rattle.cbm_text.specs.BasicText.{IsTooLong, most_bytes, greatest_link}
use Rattle.cbm_text.specs.Program.{address_behind}

-- The fault of the line with this number of which the part behind its own number has this one.
abbrev pub fault_of_text : ℕ → TextFault → BasicFault
fault_of_text number (text_faults.Memory error) = Memory error
fault_of_text number fault = Text number fault

-- A line of these bytes, which crunch to these, has no such byte and is short enough, and this is
-- the address behind it.
pub record IsNext (at : ℕ) (bytes codes : List ℕ) (next : ℕ) : Type 0 where
  pub is : next ≡ address_behind at codes
  pub no_zero : ¬ (Contains bytes 0)
  pub short : length codes ≤ most_bytes
  pub linked : next ≤ greatest_link

-- The fault of the line with this number, of these bytes, which crunch to these, at an address.
abbrev pub IsFaultOfCodes : ℕ → ℕ → List ℕ → List ℕ → BasicFault → Type 0
IsFaultOfCodes at number bytes codes (ZeroByte line) = (line ≡ number) × Contains bytes 0
IsFaultOfCodes at number bytes codes (TooLong line) = (line ≡ number) × ¬ (Contains bytes 0) × IsTooLong at codes
IsFaultOfCodes at number bytes codes fault = ⊥
