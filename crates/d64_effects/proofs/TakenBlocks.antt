-- the blocks that a file and its entry take: free ones, not one of which is owned
use Rattle.std.proofs.Common.{◌≡◌, ℕ, ◌+◌, ◌<◌, ◌≤◌, ltb, Bool, true, false, not, ◌&&◌, ◌||◌, eqb, nat_eq, List, [], ◌∷◌, length, Option, Some, None, refl, sym, ap, ◌∙◌, inl, inr, arith}
use Rattle.std.specs.Prelude.{All, is_some}
use Rattle.std.specs.List.{list_any, IsDistinct, flat_map}
use Rattle.std.specs.Option.{option_map_or, option_to_list}
use Rattle.std.specs.Ordering.{nat_cmp}
use Rattle.std.specs.Cmp.{nat_cmp_total, unsigned_tied}
use Rattle.std.specs.FinSet as set
use Rattle.std.specs.FinSet.{contains-remove}
use Rattle.std.proofs.lemmas.Bool.{le-leb, cases_lt, and_parts, ltb-true}
use Rattle.std.proofs.lemmas.Bool.Decides.{eqb_tells}
use Rattle.std.proofs.lemmas.List.Elements.{All-nil, All-cons}
use Rattle.d64_map.specs.Laws.{IsFreeForFiles, IsFreeForDirectory}
use Rattle.d64_map.specs.Map.{map_block, free_blocks, is_free}
use Rattle.d64_map.specs.Plan.{plan, room}
use Rattle.d64_map.proofs.FreeBlocks.{contains-free_blocks-both}
use Rattle.d64_map.proofs.Plans.{plan-choice, plan-there, dir_pick}
use Rattle.d64_files.specs.Directory.{directory, slots, owned_blocks}
use Rattle.d64_files.specs.Ownership.{owned_by}
use Rattle.d64_files.specs.Writing.{blocks_for, first_unused, dir_last}
use Rattle.d64_files.specs.declared.dir_fault.DirFault.TheVariants.{CrossLinked, MarkedFree}
use Rattle.d64_effects.specs.Laws.{HasRoom}
use Rattle.d64_effects.specs.View.{IsSound}
use Rattle.d64_effects.specs.Write.{taken_by, next_of_directory, grown_by, directory_grown, blocks_without}
use Rattle.d64_effects.proofs.Occurrences.{tally, occurs, occurs-append, occurs-distinct, occurs-from_All}

-- the blocks that a file takes: as many as it needs, different ones, and free outside track 18
pub record Takes (image : List (List ℕ)) (taken : List ℕ) (bytes : ℕ) : Type 0 where
  pub count : length taken ≡ blocks_for bytes
  pub distinct : IsDistinct nat_eq taken
  pub each : All (IsFreeForFiles (free_blocks image)) taken

by_plan : (image : List (List ℕ)) (bytes : ℕ) (planned : Option (List ℕ)) → plan (free_blocks image) (blocks_for bytes) ≡ planned
    → is_some planned ≡ true → Takes image (option_map_or (λ blocks. blocks) planned []) bytes
by_plan image bytes None e some = cc
by_plan image bytes (Some taken) e some =
    let c = plan-choice (blocks_for bytes) (free_blocks image) taken e in
    record { count = c.0; distinct = c.2; each = c.1 }

pub takes : (image : List (List ℕ)) (bytes : ℕ) → HasRoom image bytes → Takes image (taken_by (free_blocks image) bytes) bytes
takes image bytes fits =
    by_plan image bytes (plan (free_blocks image) (blocks_for bytes)) refl
    (plan-there (blocks_for bytes) (free_blocks image) ∙ le-leb (blocks_for bytes) (room (free_blocks image)) fits.blocks)

-- the blocks that a directory takes: at most one, and free on track 18
pub record Grows (image : List (List ℕ)) (grown : List ℕ) : Type 0 where
  pub once : (q : ℕ) → occurs q grown ≤ 1
  pub each : All (IsFreeForDirectory (free_blocks image)) grown

pub no_growth : (image : List (List ℕ)) → Grows image []
no_growth image = record { once = λ q. omega arith; each = All-nil (IsFreeForDirectory (free_blocks image)) }

pub growth_by : (image : List (List ℕ)) (next : Option ℕ) → next_of_directory (free_blocks image) (dir_last image) ≡ next → Grows image (option_to_list next)
growth_by image None e = no_growth image
growth_by image (Some new) e = record {
  once = λ q. elim (eqb_tells q new) [
    | inl t ↦ let f = ap (λ (b : Bool). tally b + 0) t.0 in omega arith
    | inr t ↦ let f = ap (λ (b : Bool). tally b + 0) t.0 in omega arith
  ];
  each =
      All-cons (IsFreeForDirectory (free_blocks image)) new [] (dir_pick (free_blocks image) (dir_last image) (Some new) e)
      (All-nil (IsFreeForDirectory (free_blocks image)));
}

pub grows_in : (image : List (List ℕ)) (place : Option ℕ) → Grows image (grown_by (free_blocks image) (dir_last image) place)
grows_in image (Some slot) = no_growth image
grows_in image None = growth_by image (next_of_directory (free_blocks image) (dir_last image)) refl

pub grows : (image : List (List ℕ)) → Grows image (directory_grown image)
grows image = grows_in image (first_unused (slots image))

-- how often a block is owned
pub occurs-owned : (image : List (List ℕ)) (q : ℕ)
    → occurs q (owned_blocks image) ≡ tally (eqb q map_block) + (occurs q (directory image) + occurs q (flat_map (owned_by image) (slots image)))
unfolding owned_blocks
occurs-owned image q = ap (λ (n : ℕ). tally (eqb q map_block) + n) (occurs-append q (directory image) (flat_map (owned_by image) (slots image)))

-- on a sound image a block is owned once at most, and then it isn't free
pub owned_once : (image : List (List ℕ)) → IsSound image → (q : ℕ) → occurs q (owned_blocks image) ≤ 1
owned_once image sound = occurs-distinct (owned_blocks image) (sound CrossLinked (omega arith) (omega arith))

pub owned_not_free : (image : List (List ℕ)) → IsSound image → (q : ℕ) → 1 ≤ occurs q (owned_blocks image) → set.contains (free_blocks image) q ≡ false
owned_not_free image sound q =
    occurs-from_All (λ block. set.contains (free_blocks image) block ≡ false) (owned_blocks image) q (sound MarkedFree (omega arith) (omega arith))

-- so what is taken isn't owned
pub free_not_owned : (image : List (List ℕ)) → IsSound image → (q : ℕ) → set.contains (free_blocks image) q ≡ true → occurs q (owned_blocks image) ≡ 0
free_not_owned image sound q free =
    elim (cases_lt 0 (occurs q (owned_blocks image))) [
      | inl h ↦ let f : true ≡ false = sym free ∙ owned_not_free image sound q h in cc
      | inr h ↦ omega arith
    ]

pub taken_free : (image : List (List ℕ)) (taken : List ℕ) (bytes : ℕ) → Takes image taken bytes → (q : ℕ) → 1 ≤ occurs q taken
    → IsFreeForFiles (free_blocks image) q
taken_free image taken bytes is q h = occurs-from_All (IsFreeForFiles (free_blocks image)) taken q is.each h

pub grown_free : (image : List (List ℕ)) (grown : List ℕ) → Grows image grown → (q : ℕ) → 1 ≤ occurs q grown → IsFreeForDirectory (free_blocks image) q
grown_free image grown is q h = occurs-from_All (IsFreeForDirectory (free_blocks image)) grown q is.each h

-- a list doesn't hold what it would have to hold
pub occurs_not : (q : ℕ) (xs : List ℕ) → (1 ≤ occurs q xs → ⊥) → occurs q xs ≡ 0
occurs_not q xs not_there =
    elim (cases_lt 0 (occurs q xs)) [
      | inl h ↦ absurd (not_there h)
      | inr h ↦ omega arith
    ]

-- what is owned was not taken, neither by the file nor by the directory
pub owned_not_taken : (image : List (List ℕ)) (taken : List ℕ) (bytes : ℕ) → IsSound image → Takes image taken bytes → (q : ℕ)
    → 1 ≤ occurs q (owned_blocks image) → occurs q taken ≡ 0
owned_not_taken image taken bytes sound is q owned =
    occurs_not q taken (λ h. let f = free_not_owned image sound q (taken_free image taken bytes is q h).0 in omega arith)

pub owned_not_grown : (image : List (List ℕ)) (grown : List ℕ) → IsSound image → Grows image grown → (q : ℕ) → 1 ≤ occurs q (owned_blocks image)
    → occurs q grown ≡ 0
owned_not_grown image grown sound is q owned =
    occurs_not q grown (λ h. let f = free_not_owned image sound q (grown_free image grown is q h).0 in omega arith)

-- and the two took different blocks
pub grown_not_taken : (image : List (List ℕ)) (taken grown : List ℕ) (bytes : ℕ) → Takes image taken bytes → Grows image grown → (q : ℕ)
    → 1 ≤ occurs q grown → occurs q taken ≡ 0
grown_not_taken image taken grown bytes file dir q h =
    occurs_not q taken (λ g. (taken_free image taken bytes file q g).2 (grown_free image grown dir q h).2)

-- a free block is one of the image
pub free_is_block : (image : List (List ℕ)) (q : ℕ) → set.contains (free_blocks image) q ≡ true → q < length image
free_is_block image q member =
    ltb-true q (length image) (and_parts (ltb q (length image)) (is_free image q) (sym (contains-free_blocks-both image q) ∙ member)).0

-- the free blocks without those that were taken
pub contains-blocks_without : (free : set.FinSet nat_cmp) (taken : List ℕ) (q : ℕ)
    → set.contains (blocks_without free taken) q ≡ (not (list_any (nat_eq q) taken) && set.contains free q)
contains-blocks_without free [] q = refl
contains-blocks_without free (block ∷ taken) q =
    contains-blocks_without (set.remove free block) taken q
    ∙ ap (λ (b : Bool). not (list_any (nat_eq q) taken) && b)
    (contains-remove nat_cmp_total free block q ∙ ap (λ (b : Bool). not b && set.contains free q) (unsigned_tied q block))
    ∙ regrouped (nat_eq q block) (list_any (nat_eq q) taken) (set.contains free q)
  where
    regrouped : (a b c : Bool) → (not b && (not a && c)) ≡ (not (a || b) && c)
    regrouped true true c = refl
    regrouped true false c = refl
    regrouped false b c = refl
