-- What is reported about the owners of a block: the first eight of them, and how many there are.
use Rattle.std.specs.Prelude.{◌≡◌, ℕ, nat_eq, List, length, map, filter, take}
use Rattle.d64_survey.specs.declared.owner.Owner.{Owner}

-- what is reported about owners: some of them, and how many there are
pub record OwnersView : Type 0 where
  pub shown : List Owner
  pub count : ℕ

-- the owners of a block in a list of blocks with their owners
abbrev pub owners_among : ℕ → List (ℕ × Owner) → List Owner
owners_among block owned = map (λ (o : ℕ × Owner). o.1) (filter (λ (o : ℕ × Owner). nat_eq block o.0) owned)

-- of all owners the first eight are shown, and all are counted
pub record AreListed (all : List Owner) (listed : OwnersView) : Type 0 where
  pub shown : listed.shown ≡ take 8 all
  pub count : listed.count ≡ length all
