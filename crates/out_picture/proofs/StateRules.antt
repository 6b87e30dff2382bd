-- The state of a block, by the owners that are known of it.
use Rattle.std.proofs.Common.{◌≡◌, ℕ, ◌<◌, ◌≤◌, Bool, true, false, List, [], ◌∷◌, length, take, get_or, refl, sym, ap, ◌∙◌, arith}
use Rattle.std.specs.Prelude.{◌&&◌, ◌||◌, not, nat_lt, if◌then◌else◌}
use Rattle.std.proofs.lemmas.Bool.{false≢true}
use Rattle.std.proofs.lemmas.Bool.Decides.{nat_tests}
use Rattle.std.specs.List.{list_any}
use Rattle.std.specs.FinSet as set
use Rattle.d64_map.specs.Map.{free_blocks}
use Rattle.d64_survey.specs.Dump.{DumpView}
use Rattle.d64_survey.specs.Owners.{owners_of}
use Rattle.d64_survey.specs.declared.owner.Owner.{Owner}
use Rattle.d64_survey.specs.declared.owner.Owner.TheVariants as owners
use Rattle.out_picture.specs.States.{is_system, is_unreadable, by_last, state_of_block, state_of_owner}
use Rattle.out_picture.specs.declared.block_state.BlockState.{BlockState}
use Rattle.out_picture.specs.declared.block_state.BlockState.TheVariants.{Free, File, System, Unowned, Fault, Unreadable}

-- the state by the owners, whether the map marks the block free, and whether it has a read error
abbrev pub ruled : List Owner → Bool → Bool → BlockState
ruled all free unreadable =
    by_last Free
    ((nat_lt 0 (length all), File)
    ∷ (list_any is_system all, System)
    ∷ (not (nat_lt 0 (length all)) && not free, Unowned)
    ∷ (nat_lt 1 (length all) || (nat_lt 0 (length all) && free), Fault)
    ∷ (unreadable, Unreadable)
    ∷ [])

-- that is the state of a block
ruled-is : (dump : DumpView) (block : ℕ) (all : List Owner) (free unreadable : Bool)
    → owners_of dump.image block ≡ all → set.contains (free_blocks dump.image) block ≡ free → is_unreadable dump block ≡ unreadable
    → state_of_block dump block ≡ ruled all free unreadable
unfolding state_of_block
ruled-is dump block all free unreadable owners marked read =
    ap (λ (o : List Owner). ruled o (set.contains (free_blocks dump.image) block) (is_unreadable dump block)) owners
    ∙ ap (λ (f : Bool). ruled all f (is_unreadable dump block)) marked
    ∙ ap (λ (u : Bool). ruled all free u) read

-- if none of the first eight owners is shown, there is no owner
none_shown : (all shown : List Owner) → shown ≡ take 8 all → length shown < 1 → all ≡ []
none_shown [] shown is few = refl
none_shown (owner ∷ all) shown is few = absurd (omega (arith, ap length is))

-- if one is shown, there is one
one_shown : (all shown : List Owner) (d : Owner) → shown ≡ take 8 all → 1 ≤ length shown → length shown < 2 → all ≡ get_or shown 0 d ∷ []
one_shown [] shown d is some few = absurd (omega (arith, ap length is))
one_shown (owner ∷ []) shown d is some few = ap (λ (s : List Owner). get_or s 0 d ∷ []) (sym is)
one_shown (owner ∷ other ∷ all) shown d is some few = absurd (omega (arith, ap length is))

-- one owner
pub ruled-one : (owner : Owner) → ruled (owner ∷ []) false false ≡ state_of_owner owner
ruled-one owners.Map = refl
ruled-one owners.Directory = refl
ruled-one (owners.File slot part) = refl

-- a block with more than one owner is a fault, whatever else it is
shared_wins : (shared other : Bool) (state : BlockState) → shared ≡ true → (if shared || other then Fault else state) ≡ Fault
shared_wins true other state is = refl
shared_wins false other state is = absurd (false≢true is)

-- if two are shown, there is more than one
more_shown : (all shown : List Owner) → shown ≡ take 8 all → 2 ≤ length shown → nat_lt 1 (length all) ≡ true
more_shown [] shown is some = absurd (omega (arith, ap length is))
more_shown (owner ∷ []) shown is some = absurd (omega (arith, ap length is))
more_shown (owner ∷ other ∷ all) shown is some = let n : 1 < length (owner ∷ other ∷ all) = omega arith in grind (arith, nat_tests)

-- a read error is shown before all else
pub state-unreadable : (dump : DumpView) (block : ℕ) → is_unreadable dump block ≡ true → state_of_block dump block ≡ Unreadable
state-unreadable dump block read = ruled-is dump block _ _ true refl refl read

-- a block without owners
pub state-none : (dump : DumpView) (block : ℕ) (shown : List Owner) (free : Bool) → shown ≡ take 8 (owners_of dump.image block)
    → length shown < 1 → set.contains (free_blocks dump.image) block ≡ free → is_unreadable dump block ≡ false → state_of_block dump block ≡ ruled [] free false
state-none dump block shown free is few marked read = ruled-is dump block [] free false (none_shown _ shown is few) marked read

-- one with a single owner
pub state-one : (dump : DumpView) (block : ℕ) (shown : List Owner) (free : Bool) (d : Owner) → shown ≡ take 8 (owners_of dump.image block)
    → 1 ≤ length shown → length shown < 2 → set.contains (free_blocks dump.image) block ≡ free → is_unreadable dump block ≡ false
    → state_of_block dump block ≡ ruled (get_or shown 0 d ∷ []) free false
state-one dump block shown free d is some few marked read = ruled-is dump block _ free false (one_shown _ shown d is some few) marked read

-- one with more
pub state-more : (dump : DumpView) (block : ℕ) (shown : List Owner) → shown ≡ take 8 (owners_of dump.image block)
    → 2 ≤ length shown → is_unreadable dump block ≡ false → state_of_block dump block ≡ Fault
state-more dump block shown is some read = ruled-is dump block _ _ false refl refl read ∙ shared_wins _ _ _ (more_shown _ shown is some)
