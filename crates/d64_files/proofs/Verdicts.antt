-- Which conditions of a sound image hold, and which is the first that fails.
use Rattle.std.proofs.Common.{◌≡◌, ℕ, ◌<◌, ◌≤◌, true, false, eqb, List, [], ◌∷◌, ◌++◌, get_or, refl, sym, ap, ◌∙◌, subst, inl, inr, arith}
use Rattle.std.specs.Prelude.{All, MatchResult, Result, Ok, Err}
use Rattle.std.specs.List.{IsDistinct, list_any, flat_map}
use Rattle.std.specs.Ordering.{nat_cmp}
use Rattle.std.specs.FinSet as set
use Rattle.std.specs.FinSet.{contains-from_list_nat}
use Rattle.std.proofs.lemmas.Bool.{eq-eqb, or_cases, eqb-true}
use Rattle.std.proofs.lemmas.List.Folds.{list_any_at}
use Rattle.std.proofs.lemmas.List.Elements.{All-from_get_or, All-head, All-tail}
use Rattle.d64_map.specs.Map.{map_block, CountsFit, free_blocks}
use Rattle.d64_files.specs.Ownership.{owned_by, HasItsChains, NoneIsFree}
use Rattle.d64_files.specs.Claims.{claims_of}
use Rattle.d64_files.specs.Slot.{EntryView}
use Rattle.d64_files.specs.Directory.{directory, slots, entries, owned_blocks, condition_number, Holds, AllHold, IsFirstFault}
use Rattle.d64_files.specs.declared.dir_fault.DirFault.{DirFault}
use Rattle.d64_files.specs.declared.dir_fault.DirFault.TheVariants.{WrongCounts, NoDirectory, UnknownKind, NoChain, CrossLinked, MarkedFree}
use Rattle.d64_files.proofs.Owners.{entries_owned}

-- the map's block, the directory's and those of the entries are the owned ones
pub all_claimed : (image : List (List ℕ)) (walk : List EntryView) → walk ≡ entries image (slots image)
    → claims_of (((map_block ∷ []) ++ directory image) ++ flat_map (λ (entry : EntryView). owned_by image entry.bytes) walk) ≡ claims_of (owned_blocks image)
unfolding owned_blocks
all_claimed image walk e =
    ap (λ (bs : List ℕ). claims_of (map_block ∷ (directory image ++ bs)))
    (ap (flat_map (λ (entry : EntryView). owned_by image entry.bytes)) e ∙ entries_owned (owned_by image) image 0 (slots image))

-- the conditions 2 to 5 hold if 2 and 3 do, each chain exists, and no block is owned twice
pub files_hold : (image : List (List ℕ)) → AllHold image 2 3 → All (HasItsChains image) (slots image) → IsDistinct eqb (owned_blocks image) → AllHold image 2 5
files_hold image dir chains distinct WrongCounts from to = absurd (omega arith)
files_hold image dir chains distinct NoDirectory from to = dir NoDirectory (omega arith) (omega arith)
files_hold image dir chains distinct UnknownKind from to = dir UnknownKind (omega arith) (omega arith)
files_hold image dir chains distinct NoChain from to = chains
files_hold image dir chains distinct CrossLinked from to = distinct
files_hold image dir chains distinct MarkedFree from to = absurd (omega arith)

-- what comes before the condition 4
before_chains : (image : List (List ℕ)) → AllHold image 2 3 → (other : DirFault) → 2 ≤ condition_number other → condition_number other < 4 → Holds image other
before_chains image dir WrongCounts from to = absurd (omega arith)
before_chains image dir NoDirectory from to = dir NoDirectory (omega arith) (omega arith)
before_chains image dir UnknownKind from to = dir UnknownKind (omega arith) (omega arith)
before_chains image dir NoChain from to = absurd (omega arith)
before_chains image dir CrossLinked from to = absurd (omega arith)
before_chains image dir MarkedFree from to = absurd (omega arith)

-- a missing chain is the first fault of files
pub missing_chain : (image : List (List ℕ)) → AllHold image 2 3 → ¬ (All (HasItsChains image) (slots image)) → IsFirstFault image 2 5 NoChain
missing_chain image dir missing = record {
  not_before = omega arith;
  not_after = omega arith;
  fails = missing;
  others_hold = before_chains image dir;
}

-- what comes before the condition 5
before_crossed : (image : List (List ℕ)) → AllHold image 2 3 → All (HasItsChains image) (slots image)
    → (other : DirFault) → 2 ≤ condition_number other → condition_number other < 5 → Holds image other
before_crossed image dir chains WrongCounts from to = absurd (omega arith)
before_crossed image dir chains NoDirectory from to = dir NoDirectory (omega arith) (omega arith)
before_crossed image dir chains UnknownKind from to = dir UnknownKind (omega arith) (omega arith)
before_crossed image dir chains NoChain from to = chains
before_crossed image dir chains CrossLinked from to = absurd (omega arith)
before_crossed image dir chains MarkedFree from to = absurd (omega arith)

-- a block that is owned twice is the next
pub crossed : (image : List (List ℕ)) → AllHold image 2 3 → All (HasItsChains image) (slots image) → ¬ (IsDistinct eqb (owned_blocks image)) → IsFirstFault image 2 5 CrossLinked
crossed image dir chains twice = record {
  not_before = omega arith;
  not_after = omega arith;
  fails = twice;
  others_hold = before_crossed image dir chains;
}

-- a fault of the directory is the first up to the condition 5
pub dir_fault_first : (image : List (List ℕ)) (fault : DirFault) → IsFirstFault image 2 3 fault → IsFirstFault image 2 5 fault
dir_fault_first image fault f = record {
  not_before = f.not_before;
  not_after = let h = f.not_after in omega arith;
  fails = f.fails;
  others_hold = f.others_hold;
}

-- counts that don't fit are the first fault of all
pub wrong_counts : (image : List (List ℕ)) → ¬ (CountsFit image) → IsFirstFault image 1 6 WrongCounts
wrong_counts image wrong = record {
  not_before = omega arith;
  not_after = omega arith;
  fails = wrong;
  others_hold = λ other from to. absurd (omega arith);
}

-- what comes before a fault of files, if the counts fit
before_files : (image : List (List ℕ)) (fault : DirFault) → CountsFit image → IsFirstFault image 2 5 fault
    → (other : DirFault) → 1 ≤ condition_number other → condition_number other < condition_number fault → Holds image other
before_files image fault counts f WrongCounts from to = counts
before_files image fault counts f NoDirectory from to = f.others_hold NoDirectory (omega arith) to
before_files image fault counts f UnknownKind from to = f.others_hold UnknownKind (omega arith) to
before_files image fault counts f NoChain from to = f.others_hold NoChain (omega arith) to
before_files image fault counts f CrossLinked from to = f.others_hold CrossLinked (omega arith) to
before_files image fault counts f MarkedFree from to = f.others_hold MarkedFree (omega arith) to

-- then a fault of files is the first of all
pub file_fault_first : (image : List (List ℕ)) (fault : DirFault) → CountsFit image → IsFirstFault image 2 5 fault → IsFirstFault image 1 6 fault
file_fault_first image fault counts f = record {
  not_before = let h = f.not_before in omega arith;
  not_after = let h = f.not_after in omega arith;
  fails = f.fails;
  others_hold = before_files image fault counts f;
}

-- what holds of blocks holds of the members of their set
member_has : (P : ℕ → Type 0) (blocks : List ℕ) (q : ℕ) → All P blocks → list_any (λ (b : ℕ). eqb b q) blocks ≡ true → P q
member_has P [] q all found = absurd (let f : false ≡ true = found in cc)
member_has P (b ∷ blocks) q all found =
    elim (or_cases (eqb b q) (list_any (λ (c : ℕ). eqb c q) blocks) found) [
      | inl t ↦ subst P (eqb-true b q t) (All-head P b blocks all)
      | inr t ↦ member_has P blocks q (All-tail P b blocks all) t
    ]

-- no member of a set is marked free
abbrev pub NoMemberIsFree : List (List ℕ) → set.FinSet nat_cmp → Type 0
NoMemberIsFree image owned = (block : ℕ) → set.contains owned block ≡ true → set.contains (free_blocks image) block ≡ false

-- if no block is marked free, no member of their set is
pub members_too : (image : List (List ℕ)) (blocks : List ℕ) (owned : set.FinSet nat_cmp) → owned ≡ set.from_list blocks → NoneIsFree image blocks → NoMemberIsFree image owned
members_too image blocks owned e none block is =
    member_has (λ (b : ℕ). set.contains (free_blocks image) b ≡ false) blocks block none
    (sym (contains-from_list_nat blocks block) ∙ sym (ap (λ (s : set.FinSet nat_cmp). set.contains s block) e) ∙ is)

-- and the other way round
pub blocks_too : (image : List (List ℕ)) (blocks : List ℕ) (owned : set.FinSet nat_cmp) → owned ≡ set.from_list blocks → NoMemberIsFree image owned → NoneIsFree image blocks
blocks_too image blocks owned e none =
    All-from_get_or (λ (b : ℕ). set.contains (free_blocks image) b ≡ false) blocks 0 (λ i within.
    let q : ℕ = get_or blocks i 0 in
    none (get_or blocks i 0)
    (ap (λ (s : set.FinSet nat_cmp). set.contains s (get_or blocks i 0)) e
    ∙ contains-from_list_nat blocks (get_or blocks i 0)
    ∙ list_any_at (λ (c : ℕ). eqb c (get_or blocks i 0)) blocks i 0 within (eq-eqb (get_or blocks i 0) (get_or blocks i 0) refl)))

-- all six hold
pub all_hold : (image : List (List ℕ)) → CountsFit image → AllHold image 2 5 → NoneIsFree image (owned_blocks image) → AllHold image 1 6
all_hold image counts files none WrongCounts from to = counts
all_hold image counts files none NoDirectory from to = files NoDirectory (omega arith) (omega arith)
all_hold image counts files none UnknownKind from to = files UnknownKind (omega arith) (omega arith)
all_hold image counts files none NoChain from to = files NoChain (omega arith) (omega arith)
all_hold image counts files none CrossLinked from to = files CrossLinked (omega arith) (omega arith)
all_hold image counts files none MarkedFree from to = none

-- what comes before the condition 6
before_free : (image : List (List ℕ)) → CountsFit image → AllHold image 2 5 → (other : DirFault) → 1 ≤ condition_number other → condition_number other < 6 → Holds image other
before_free image counts files WrongCounts from to = counts
before_free image counts files NoDirectory from to = files NoDirectory (omega arith) (omega arith)
before_free image counts files UnknownKind from to = files UnknownKind (omega arith) (omega arith)
before_free image counts files NoChain from to = files NoChain (omega arith) (omega arith)
before_free image counts files CrossLinked from to = files CrossLinked (omega arith) (omega arith)
before_free image counts files MarkedFree from to = absurd (omega arith)

-- an owned block that is marked free is the last fault
pub marked_free : (image : List (List ℕ)) → CountsFit image → AllHold image 2 5 → ¬ (NoneIsFree image (owned_blocks image)) → IsFirstFault image 1 6 MarkedFree
marked_free image counts files some = record {
  not_before = omega arith;
  not_after = omega arith;
  fails = some;
  others_hold = before_free image counts files;
}

-- the claims of all owned blocks decide the conditions 2 to 5
pub finished : (image : List (List ℕ)) (result : Result (set.FinSet nat_cmp) DirFault) → AllHold image 2 3 → All (HasItsChains image) (slots image)
    → MatchResult result (λ (owned : set.FinSet nat_cmp). (owned ≡ set.from_list (owned_blocks image)) × IsDistinct eqb (owned_blocks image))
    (λ (fault : DirFault). (fault ≡ CrossLinked) × ¬ (IsDistinct eqb (owned_blocks image)))
    → MatchResult result (λ (owned : set.FinSet nat_cmp). AllHold image 2 5 × (owned ≡ set.from_list (owned_blocks image))) (IsFirstFault image 2 5)
finished image (Ok owned) dir chains h = (files_hold image dir chains h.1, h.0)
finished image (Err fault) dir chains h = subst (IsFirstFault image 2 5) (sym h.0) (crossed image dir chains h.1)
