-- The faults of a text that stands for no bytes.
use Rattle.std.specs.Prelude.{◌≡◌, ◌≢◌, ℕ, List, [], ◌∷◌, ◌++◌, length, Contains}
use Rattle.petscii.specs.declared.fault.TextFault.{TextFault}
use Rattle.petscii.specs.declared.fault.TextFault.TheVariants.{UnknownName, OpenBrace, BadByte, Memory}
use Rattle.petscii.specs.Spelling.{braced_name}
use Rattle.petscii.specs.TextForm.{open_brace, close_brace, IsAccepted, IsTextOf}

-- The unit stands for no byte.
abbrev pub IsUnknown : List ℕ → Type 0
IsUnknown unit = (b : ℕ) → ¬ (IsAccepted b unit)

-- The text begins with a `{` up to the next `}` that stands for no byte.
pub record BeginsUnknownName (text : List ℕ) : Type 0 where
  pub name : List ℕ
  pub rest : List ℕ
  pub joined : text ≡ braced_name name ++ rest
  pub next : ¬ (Contains name close_brace)
  pub unknown : IsUnknown (braced_name name)

-- The text begins with a `{` that no `}` follows.
pub record BeginsOpenBrace (text : List ℕ) : Type 0 where
  pub rest : List ℕ
  pub joined : text ≡ open_brace ∷ rest
  pub not_closed : ¬ (Contains rest close_brace)

-- The text begins with a byte other than a `{` that stands for no byte.
pub record BeginsBadByte (text : List ℕ) : Type 0 where
  pub byte : ℕ
  pub rest : List ℕ
  pub joined : text ≡ byte ∷ rest
  pub no_brace : byte ≢ open_brace
  pub unknown : IsUnknown (byte ∷ [])

-- The rest of a text, from a place on, begins with a fault.
abbrev pub BeginsFault : ℕ → List ℕ → TextFault → Type 0
BeginsFault from left (UnknownName place) = (place ≡ from) × BeginsUnknownName left
BeginsFault from left (OpenBrace place) = (place ≡ from) × BeginsOpenBrace left
BeginsFault from left (BadByte place) = (place ≡ from) × BeginsBadByte left
BeginsFault from left (Memory error) = ⊥

-- The leftmost fault of a text: the part before it is the text of some bytes.
pub record IsFirstTextFault (text : List ℕ) (fault : TextFault) : Type 0 where
  pub bytes : List ℕ
  pub before : List ℕ
  pub left : List ℕ
  pub joined : text ≡ before ++ left
  pub read : IsTextOf bytes before
  pub begins : BeginsFault (length before) left fault

-- The fault is that there was no memory for the bytes.
abbrev pub IsTextOutOfMemory : TextFault → Type 0
IsTextOutOfMemory (Memory error) = Unit {0}
IsTextOutOfMemory fault = ⊥

-- The text of some bytes has no fault.
abbrev pub HasNoFaultIfRead : List ℕ → Type 0
HasNoFaultIfRead text = (bytes : List ℕ) (fault : TextFault) → IsTextOf bytes text → ¬ (IsFirstTextFault text fault)

-- A text has at most one leftmost fault.
abbrev pub HasOneFault : List ℕ → Type 0
HasOneFault text = (a b : TextFault) → IsFirstTextFault text a → IsFirstTextFault text b → a ≡ b
