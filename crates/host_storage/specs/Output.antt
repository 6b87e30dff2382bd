-- The effect of a write and of a flush on an output, and of a write that stopped on its writer.
use Rattle.std.specs.Prelude.{◌≡◌, ℕ, Bool, true, Option, List, ◌++◌, ◌⊎◌, Result, MatchResult}
use Rattle.std.specs.Io.KnownBytes.{Appends}

-- a first part of the bytes was appended to the writer's
pub record AppendsPart (old new : Option (List ℕ)) (bytes : List ℕ) : Type 0 where
  pub part : List ℕ
  pub rest : List ℕ
  pub all : part ++ rest ≡ bytes
  pub gained : Appends old new part

-- the state of an output: the bytes of its writer, if they are known, and whether a write or a
-- flush of it has failed
pub record Account : Type 0 where
  pub contents : Option (List ℕ)
  pub has_failed : Bool

abbrev pub account_of : Option (List ℕ) → Bool → Account
account_of contents has_failed = record { contents = contents; has_failed = has_failed }

-- all of the bytes were written and no write failed, or a write failed and a first part of them was
-- written
abbrev pub Writes : Account → Account → List ℕ → Type 0
Writes old new bytes =
    (Appends old.contents new.contents bytes × (new.has_failed ≡ old.has_failed))
    ⊎ (AppendsPart old.contents new.contents bytes × (new.has_failed ≡ true))

-- after a call the output has failed exactly if it had failed before or the call failed
abbrev pub FailsWith : {T E : Type 0} → Result T E → Bool → Bool → Type 0
FailsWith result old new = MatchResult result (λ _. new ≡ old) (λ _. new ≡ true)
