-- sets of blocks that are made block by block
use Rattle.std.proofs.Common.{◌≡◌, ℕ, ◌+◌, ◌≤◌, ◌&&◌, ◌||◌, Bool, true, false, not, eqb, ltb, nat_eq, nat_lt, List, refl, sym, ap, ap₂, ◌∙◌, inl, inr, arith}
use Rattle.std.specs.List.{list_any, range_with_len}
use Rattle.std.specs.Ordering.{nat_cmp}
use Rattle.std.specs.Cmp.{nat_cmp_total, unsigned_tied}
use Rattle.std.specs.FinSet as set
use Rattle.std.specs.FinSet.{contains-empty, contains-from_list_nat, contains-insert, contains-from_list, same_set, nat_cmp-IsAntisymmetric}
use Rattle.std.proofs.lemmas.Bool.{cases_lt, cases_Bool, eqb-true, ltb-true, lt-ltb, eq-eqb, ne_eqb}
use Rattle.d64_image.specs.declared.block.TheConstants.{BLOCKS}
use Rattle.d64_image.specs.BlockSet.{MembersAreBlocks}
use Rattle.d64_map.specs.Map.{all_of}
use Rattle.d64_map.proofs.FreeBlocks.{any-below}
use Rattle.d64_effects.specs.Clear.{with_freed}
use Rattle.d64_effects.specs.Validate.{all_but}
use Rattle.d64_effects.proofs.TakenBlocks.{contains-blocks_without}
use Rattle.d64_effects.proofs.ClearedDisks.{contains-with_freed}

-- a number that isn't below another
not_below : (a b : ℕ) → b ≤ a → ltb a b ≡ false
not_below a b h = elim (cases_Bool (ltb a b)) [
  | inl below ↦ let l = ltb-true a b below in absurd (omega arith)
  | inr above ↦ above
]

-- the blocks below the next number
below_next : (q n : ℕ) → ltb q (n + 1) ≡ (eqb q n || ltb q n)
below_next q n = elim (cases_lt q n) [
  | inl below ↦
      lt-ltb q (n + 1) (omega arith)
      ∙ sym (ap₂ (λ (a b : Bool). a || b) (ne_eqb q n (λ e. omega arith)) (lt-ltb q n below))
  | inr above ↦ elim (cases_lt n q) [
    | inl past ↦
        not_below q (n + 1) (omega arith)
        ∙ sym (ap₂ (λ (a b : Bool). a || b) (ne_eqb q n (λ e. omega arith)) (not_below q n above))
    | inr same ↦ lt-ltb q (n + 1) (omega arith) ∙ sym (ap (λ (a : Bool). a || ltb q n) (eq-eqb q n (omega arith)))
  ]
]

-- a block is among a set's members that a list names if the list has it
pub contains-listed : (blocks : List ℕ) (q : ℕ) → set.contains (set.from_list {R = nat_cmp} blocks) q ≡ list_any (nat_eq q) blocks
contains-listed blocks q = contains-from_list nat_cmp_total blocks q ∙ (λ i. list_any (λ block. unsigned_tied q block i) blocks)

-- the free blocks, and those of the blocks below a number that are given back
abbrev pub FreedBelow : set.FinSet nat_cmp → set.FinSet nat_cmp → set.FinSet nat_cmp → ℕ → Type 0
FreedBelow free given next n = (q : ℕ) → set.contains next q ≡ ((nat_lt q n && set.contains given q) || set.contains free q)

-- one more that is given back
pub one_freed : (free given next : set.FinSet nat_cmp) (n : ℕ) → FreedBelow free given next n → set.contains given n ≡ true
    → FreedBelow free given (set.insert next n) (n + 1)
one_freed free given next n so member q =
    contains-insert nat_cmp_total next n q
    ∙ ap₂ (λ (a b : Bool). a || b) (unsigned_tied q n) (so q)
    ∙ by_number (eqb q n) refl
    ∙ ap (λ (b : Bool). (b && set.contains given q) || set.contains free q) (sym (below_next q n))
  where
    by_number : (same : Bool) → eqb q n ≡ same
        → (same || ((ltb q n && set.contains given q) || set.contains free q)) ≡ (((same || ltb q n) && set.contains given q) || set.contains free q)
    by_number true e = sym (ap (λ (b : Bool). b || set.contains free q) (ap (set.contains given) (eqb-true q n e) ∙ member))
    by_number false e = refl

-- one that isn't
pub none_freed : (free given next : set.FinSet nat_cmp) (n : ℕ) → FreedBelow free given next n → set.contains given n ≡ false
    → FreedBelow free given next (n + 1)
none_freed free given next n so absent q =
    so q
    ∙ by_number (eqb q n) refl
    ∙ ap (λ (b : Bool). (b && set.contains given q) || set.contains free q) (sym (below_next q n))
  where
    none : (a : Bool) → (a && false) ≡ false
    none true = refl
    none false = refl

    by_number : (same : Bool) → eqb q n ≡ same
        → ((ltb q n && set.contains given q) || set.contains free q) ≡ (((same || ltb q n) && set.contains given q) || set.contains free q)
    by_number true e =
        let gone : set.contains given q ≡ false = ap (set.contains given) (eqb-true q n e) ∙ absent in
        ap (λ (b : Bool). (ltb q n && b) || set.contains free q) gone
        ∙ ap (λ (b : Bool). b || set.contains free q) (none (ltb q n) ∙ sym gone)
    by_number false e = refl

-- at last all of them
pub all_freed : (free given next : set.FinSet nat_cmp) (n : ℕ) (blocks : List ℕ) → n ≡ BLOCKS → MembersAreBlocks given
    → given ≡ set.from_list blocks → FreedBelow free given next n → next ≡ with_freed free blocks
all_freed free given next n blocks all legal listed so = same_set nat_cmp_total nat_cmp-IsAntisymmetric next (with_freed free blocks) (λ q.
    so q
    ∙ ap (λ (b : Bool). b || set.contains free q)
    (by_member q (set.contains given q) refl ∙ ap (λ (members : set.FinSet nat_cmp). set.contains members q) listed ∙ contains-listed blocks q)
    ∙ sym (contains-with_freed free blocks q))
  where
    by_member : (q : ℕ) (member : Bool) → set.contains given q ≡ member → (ltb q n && set.contains given q) ≡ set.contains given q
    by_member q true e = ap (λ (b : Bool). b && set.contains given q) (lt-ltb q n (let l = legal q e in omega arith))
    by_member q false e = none (ltb q n)
      where
        none : (a : Bool) → (a && set.contains given q) ≡ set.contains given q
        none true = refl
        none false = sym e

-- the blocks below a number that are not members
abbrev pub OthersBelow : set.FinSet nat_cmp → set.FinSet nat_cmp → ℕ → Type 0
OthersBelow members others n = (q : ℕ) → set.contains others q ≡ (nat_lt q n && not (set.contains members q))

-- at first no block
pub no_others : (members : set.FinSet nat_cmp) → OthersBelow members set.empty 0
no_others members q = contains-empty nat_cmp q ∙ sym (ap (λ (b : Bool). b && not (set.contains members q)) (not_below q 0 (omega arith)))

-- one more that is no member
pub one_other : (members others : set.FinSet nat_cmp) (n : ℕ) → OthersBelow members others n → set.contains members n ≡ false
    → OthersBelow members (set.insert others n) (n + 1)
one_other members others n so absent q =
    contains-insert nat_cmp_total others n q
    ∙ ap₂ (λ (a b : Bool). a || b) (unsigned_tied q n) (so q)
    ∙ by_number (eqb q n) refl
    ∙ ap (λ (b : Bool). b && not (set.contains members q)) (sym (below_next q n))
  where
    by_number : (same : Bool) → eqb q n ≡ same
        → (same || (ltb q n && not (set.contains members q))) ≡ ((same || ltb q n) && not (set.contains members q))
    by_number true e = sym (ap not (ap (set.contains members) (eqb-true q n e) ∙ absent))
    by_number false e = refl

-- one that is
pub no_other : (members others : set.FinSet nat_cmp) (n : ℕ) → OthersBelow members others n → set.contains members n ≡ true
    → OthersBelow members others (n + 1)
no_other members others n so member q =
    so q
    ∙ by_number (eqb q n) refl
    ∙ ap (λ (b : Bool). b && not (set.contains members q)) (sym (below_next q n))
  where
    none : (a : Bool) → (a && false) ≡ false
    none true = refl
    none false = refl

    by_number : (same : Bool) → eqb q n ≡ same
        → (ltb q n && not (set.contains members q)) ≡ ((same || ltb q n) && not (set.contains members q))
    by_number true e =
        let gone : not (set.contains members q) ≡ false = ap not (ap (set.contains members) (eqb-true q n e) ∙ member) in
        ap (λ (b : Bool). ltb q n && b) gone ∙ none (ltb q n) ∙ sym gone
    by_number false e = refl

-- a disk has the blocks below their number
contains-all_of : (n q : ℕ) → set.contains (all_of n) q ≡ ltb q n
contains-all_of n q = contains-from_list_nat (range_with_len 0 n) q ∙ any-below n q

-- at last all others
pub all_others : (members others : set.FinSet nat_cmp) (n count : ℕ) (owned : List ℕ) → n ≡ count → members ≡ set.from_list owned
    → OthersBelow members others n → others ≡ all_but count owned
all_others members others n count owned all listed so = same_set nat_cmp_total nat_cmp-IsAntisymmetric others (all_but count owned) (λ q.
    so q
    ∙ ap (λ (end : ℕ). ltb q end && not (set.contains members q)) all
    ∙ ap₂ (λ (a b : Bool). a && not b)
    (sym (contains-all_of count q)) (ap (λ (one : set.FinSet nat_cmp). set.contains one q) listed ∙ contains-listed owned q)
    ∙ swapped (set.contains (all_of count) q) (not (list_any (nat_eq q) owned))
    ∙ sym (contains-blocks_without (all_of count) owned q))
  where
    swapped : (a b : Bool) → (a && b) ≡ (b && a)
    swapped true true = refl
    swapped true false = refl
    swapped false true = refl
    swapped false false = refl
