-- the image without the files that patterns delete, from what was found of them
use Rattle.std.proofs.Common.{◌≡◌, ℕ, ◌==◌, true, false, List, [], ◌∷◌, length, refl, sym, ap, ap₂, ◌∙◌, arith}
use Rattle.std.proofs.lemmas.Bool.{eqb-true, eqb-false}
use Rattle.std.specs.List.{flat_map}
use Rattle.std.specs.Ordering.{nat_cmp}
use Rattle.std.specs.FinSet as set
use Rattle.d64_map.specs.Map.{free_blocks, with_map}
use Rattle.d64_files.specs.Directory.{slot_owns}
use Rattle.d64_effects.specs.Clear.{with_cleared, with_freed}
use Rattle.d64_effects.specs.Delete.{scratched_slots, without_files, scratched_disk}

-- a list with an element isn't empty, and one without is
not_empty : (slot : ℕ) (others : List ℕ) → true ≡ (length (slot ∷ others) == 0) → ⊥
not_empty slot others e = let f = eqb-true (length (slot ∷ others)) 0 (sym e) in omega arith

not_some : false ≡ (length {A = ℕ} [] == 0) → ⊥
not_some e = eqb-false 0 0 (sym e) refl

-- if no slot was found the image stays
pub none_scratched : (image patterns : List (List ℕ)) (numbers : List ℕ) → numbers ≡ scratched_slots image patterns → true ≡ (length numbers == 0)
    → image ≡ scratched_disk image patterns
unfolding scratched_disk
none_scratched image patterns [] found none = ap (without_files image) found
none_scratched image patterns (slot ∷ others) found none = absurd (not_empty slot others none)

-- if one was the image is the one with these slots cleared, and the map of what is free then
pub some_scratched : (image patterns cleared next : List (List ℕ)) (numbers : List ℕ) (free : set.FinSet nat_cmp) → numbers ≡ scratched_slots image patterns
    → false ≡ (length numbers == 0) → cleared ≡ with_cleared image numbers
    → free ≡ with_freed (free_blocks image) (flat_map (slot_owns image) (scratched_slots image patterns)) → next ≡ with_map cleared free
    → next ≡ scratched_disk image patterns
unfolding scratched_disk
some_scratched image patterns cleared next [] free found some one two whole = absurd (not_some some)
some_scratched image patterns cleared next (slot ∷ others) free found some one two whole =
    whole
    ∙ ap₂ with_map one (two ∙ ap (λ (numbers : List ℕ). with_freed (free_blocks image) (flat_map (slot_owns image) numbers)) (sym found))
    ∙ ap (without_files image) found
