-- The parts of an input between separators, and how far it has come.
use Rattle.std.specs.Prelude.{◌≡◌, ◌≤◌, ℕ, Bool, true, false, List, ◌++◌, ◌⊎◌, length, take, Option, IfSome, ◌==◌}
use Rattle.std.specs.List.{list_any, slice_split}
use Rattle.std.specs.Io.KnownBytes.{Consumes}
use Rattle.host_storage.specs.Input.{reads_limit, input_limit}

-- the parts of an input between its separators; the last one is what comes after the last
-- separator, and may be empty
abbrev pub parts_of : ℕ → List ℕ → List (List ℕ)
parts_of separator input = slice_split (λ byte. byte == separator) input

-- there is no separator among the bytes
abbrev pub Lacks : ℕ → List ℕ → Type 0
Lacks separator bytes = list_any (λ byte. byte == separator) bytes ≡ false

-- a run has come through these first bytes of its input, by what is true of it after the parts that
-- have ended in them and the bytes of the next one, whatever comes after them
pub record HasCome (come : List (List ℕ) → List ℕ → Type 0) (separator : ℕ) (bytes : List ℕ) : Type 0 where
  pub parts : List (List ℕ)
  pub begun : List ℕ
  pub goes_on : (more : List ℕ) → parts_of separator (bytes ++ more) ≡ parts ++ parts_of separator (begun ++ more)
  pub is_open : Lacks separator begun
  pub here : come parts begun

-- a run has ended, by what is true of it at the end of an input of these parts; the input is the
-- reader's, as far as that is known
pub record Ends (ended : List (List ℕ) → Type 0) (separator : ℕ) (reader : Option (List ℕ)) : Type 0 where
  pub input : List ℕ
  pub all : IfSome reader (λ bytes. input ≡ bytes)
  pub here : ended (parts_of separator input)

-- why an input of which this many bytes came cannot be read to its end: a read failed, or it has as
-- many bytes as there may be reads, each of which gives at least one
abbrev pub IsCutShort : Bool → ℕ → Type 0
IsCutShort has_failed came = (has_failed ≡ true) ⊎ (reads_limit ≤ came)

-- an input cannot be read to its end: the run has come through the bytes that came, up to the limit
pub record CutsShort (come : List (List ℕ) → List ℕ → Type 0) (separator : ℕ) (reader left : Option (List ℕ)) (has_failed : Bool) : Type 0 where
  pub consumed : List ℕ
  pub lost : Consumes reader left consumed
  pub cause : IsCutShort has_failed (length consumed)
  pub has_come : HasCome come separator (take input_limit consumed)
