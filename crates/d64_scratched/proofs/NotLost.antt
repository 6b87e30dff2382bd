-- a file that isn't lost can be restored
use Rattle.std.proofs.Common.{◌≡◌, ℕ, ◌==◌, Bool, true, false, not, List, [], ◌∷◌, ◌++◌, length, refl}
use Rattle.std.specs.Prelude.{◌&&◌, All}
use Rattle.std.specs.List.{list_any}
use Rattle.std.specs.FinSet as set
use Rattle.std.proofs.lemmas.Bool.{or_parts, eqb-true}
use Rattle.std.proofs.lemmas.List.Elements.{All-nil, All-cons}
use Rattle.d64_map.specs.Map.{free_blocks}
use Rattle.d64_files.specs.Slot.{first_pair, size_of}
use Rattle.d64_survey.specs.Flaws.{any_unreadable}
use Rattle.d64_survey.specs.Owners.{is_owned, is_unowned}
use Rattle.d64_survey.specs.Way.{way, is_whole}
use Rattle.d64_survey.specs.declared.way_end.WayEnd.{WayEnd}
use Rattle.d64_survey.specs.declared.way_end.WayEnd.TheVariants.{End, Off, Loop}
use Rattle.d64_survey.proofs.Traced.{bounded}
use Rattle.d64_scratched.specs.LossLaws.{FilesThatAreNotLostCanBeRestored}
use Rattle.d64_scratched.specs.Scratched.{scratched_way, is_claimed_below, is_scratched_missized, where_lost, losses, is_lost}
use Rattle.d64_scratched.specs.declared.loss.Loss.TheVariants.{Chain, Reused, Marked, Size, Claimed, Unreadable}
use Rattle.d64_scratched.proofs.Untouched.{is_free}

-- if no reason is fatal, the four tests fail
not_fatal : (chain reused marked size claimed unreadable : Bool)
    → is_lost (where_lost chain Chain ++ (where_lost reused Reused ++ (where_lost marked Marked ++ (where_lost size Size ++ (where_lost claimed Claimed ++ where_lost unreadable Unreadable))))) ≡ false
    → (chain ≡ false) × (reused ≡ false) × (marked ≡ false) × (size ≡ false)
not_fatal true reused marked size claimed unreadable h = absurd (let e : true ≡ false = h in cc)
not_fatal false true marked size claimed unreadable h = absurd (let e : true ≡ false = h in cc)
not_fatal false false true size claimed unreadable h = absurd (let e : true ≡ false = h in cc)
not_fatal false false false true claimed unreadable h = absurd (let e : true ≡ false = h in cc)
not_fatal false false false false claimed unreadable h = (refl, refl, refl, refl)

-- the end of a way that is whole
ends : (end : WayEnd) → not (is_whole end) ≡ false → end ≡ End
ends End h = refl
ends (Off track sector) h = absurd (let e : true ≡ false = h in cc)
ends (Loop track sector) h = absurd (let e : true ≡ false = h in cc)

-- the blocks are free
all_free : (image : List (List ℕ)) (blocks : List ℕ) → list_any (is_owned image) blocks ≡ false → list_any (is_unowned image) blocks ≡ false
    → All (λ block. set.contains (free_blocks image) block ≡ true) blocks
all_free image [] a b = All-nil (λ block. set.contains (free_blocks image) block ≡ true)
all_free image (block ∷ blocks) a b =
    let owned = or_parts (is_owned image block) (list_any (is_owned image) blocks) a in
    let marked = or_parts (is_unowned image block) (list_any (is_unowned image) blocks) b in
    All-cons (λ block. set.contains (free_blocks image) block ≡ true) block blocks
    (is_free (is_owned image block) (set.contains (free_blocks image) block) owned.0 marked.0) (all_free image blocks owned.1 marked.1)

-- the size is the length
right_size : (whole same : Bool) → not whole ≡ false → (whole && not same) ≡ false → same ≡ true
right_size true true a b = refl
right_size true false a b = absurd (let e : true ≡ false = b in cc)
right_size false same a b = absurd (let e : true ≡ false = a in cc)

pub not_lost-restored : FilesThatAreNotLostCanBeRestored
unfolding losses
not_lost-restored image codes slot cell h =
    let walked = scratched_way image cell in
    let parts = not_fatal (not (is_whole walked.1)) (list_any (is_owned image) walked.0) (list_any (is_unowned image) walked.0) (is_scratched_missized cell walked)
    (list_any (is_claimed_below image slot) walked.0) (any_unreadable codes walked.0) h in
    let end : (way image (first_pair cell)).1 ≡ End = ends walked.1 parts.0 in
    let listed = bounded image (first_pair cell) in
    record {
      chain = (listed.chain end).0;
      some = (listed.chain end).1;
      free = all_free image walked.0 parts.1 parts.2;
      size = eqb-true (length walked.0) (size_of cell) (right_size (is_whole walked.1) (length walked.0 == size_of cell) parts.0 parts.3);
    }
