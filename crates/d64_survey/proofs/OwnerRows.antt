-- Rows of the table of owners.
use Rattle.std.proofs.Common.{◌≡◌, ℕ, ◌+◌, ◌<◌, ◌≤◌, List, [], ◌∷◌, ◌++◌, length, take, get_or, refl, sym, ap, ◌∙◌, subst, inl, inr, arith}
use Rattle.std.specs.Prelude.{replicate}
use Rattle.std.proofs.lemmas.Bool.{cases_lt}
use Rattle.std.proofs.lemmas.List.{get_or-replicate, get_or_past, take_more, map-append, length-replicate}
use Rattle.d64_survey.specs.Owners.{owned_as}
use Rattle.d64_survey.specs.OwnerLists.{AreListed}
use Rattle.d64_survey.specs.OwnerTables.{row_owners}
use Rattle.d64_survey.specs.declared.owner.Owner.{Owner}
use Rattle.d64_survey.specs.declared.owner_table.Claimant.{Claimant}
use Rattle.d64_survey.specs.declared.owner_table.Row.{Row}

-- a row of no owners
abbrev blank : List Claimant → Row
blank claimants = record { first = claimants; count = 0 }

-- each of these rows has no owner
pub none_listed : (n : ℕ) (claimants : List Claimant) (d : Row) (block : ℕ) → block < n → AreListed [] (row_owners (get_or (replicate n (blank claimants)) block d))
none_listed n claimants d block within =
    subst (λ (row : Row). AreListed [] (row_owners row)) (sym (get_or-replicate n block (blank claimants) d within)) (record { shown = refl; count = refl })

-- and counts no owner
pub none_counted : (n : ℕ) (claimants others : List Claimant) (block : ℕ) → (get_or (replicate n (blank claimants)) block (blank others)).count ≤ 0
none_counted n claimants others block = elim (cases_lt block n) [
  | inl within ↦ let e = ap (λ (row : Row). row.count) (get_or-replicate n block (blank claimants) (blank others) within) in omega arith
  | inr past ↦
      let long : length (replicate n (blank claimants)) ≤ block = omega (arith, length-replicate n (blank claimants)) in
      let e = ap (λ (row : Row). row.count) (get_or_past (replicate n (blank claimants)) block (blank others) long) in omega arith
]

-- the blocks that an owner has, and one more
pub owned_more : (owner : Owner) (blocks : List ℕ) (k block d : ℕ) → k < length blocks → block ≡ get_or blocks k d
    → owned_as owner (take k blocks) ++ (block, owner) ∷ [] ≡ owned_as owner (take (k + 1) blocks)
owned_more owner blocks k block d within is =
    sym (ap (owned_as owner) (take_more blocks k d within ∙ ap (λ (b : ℕ). take k blocks ++ b ∷ []) (sym is))
    ∙ map-append (λ (b : ℕ). (b, owner)) (take k blocks) (block ∷ []))
