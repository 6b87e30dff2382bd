-- The records of the names that are taken.
use Rattle.std.specs.Prelude.{◌≡◌, ℕ, ◌<◌, ◌≤◌, Bool, true, List, map, length, take, drop, All}
use Rattle.host_names.specs.declared.ending.Ending.{Ending}
use Rattle.host_names.specs.declared.taken_names.Taken.{Taken}
use Rattle.host_names.specs.Digest.{name_digest}
use Rattle.host_names.specs.HostName.{tail, numbered_name}
use Rattle.host_names.specs.TakenNames.{is_taken}

-- the names of the records
unfoldable pub names_of : List Taken → List (List ℕ)
names_of records = map (λ taken. taken.name.items) records

-- a name has its ending from this place on
abbrev pub HasEndingAt : List ℕ → ℕ → Type 0
HasEndingAt name stem_len = (ending : Ending) × (is_part : Bool) × (drop stem_len name ≡ tail ending is_part)

-- the numbered names made of a record's name are taken below a number
abbrev pub AreTried : List (List ℕ) → Taken → ℕ → Type 0
AreTried names taken next = (number : ℕ) → 1 ≤ number → number < next
    → is_taken names (numbered_name (take taken.stem_len taken.name.items) (drop taken.stem_len taken.name.items) number) ≡ true

-- a record is right: it has the name's digest, the place of its ending, and a number below which
-- the names made of it are taken
pub record IsRecord (names : List (List ℕ)) (taken : Taken) : Type 0 where
  pub digest : taken.digest ≡ name_digest taken.name.items
  pub within : taken.stem_len ≤ length taken.name.items
  pub ends : HasEndingAt taken.name.items taken.stem_len
  pub from : 1 ≤ taken.next
  pub tried : AreTried names taken taken.next

-- each record is right
unfoldable pub AreNameRecords : List Taken → Type 0
AreNameRecords records = All (IsRecord (names_of records)) records
