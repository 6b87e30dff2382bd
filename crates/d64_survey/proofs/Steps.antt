-- The steps of a way.
use Rattle.std.proofs.Common.{◌≡◌, ℕ, zero, suc, Bool, true, false, cond, eqb, List, [], ◌∷◌, ◌++◌, Some, None, refl, ap}
use Rattle.std.specs.List.{list_any}
use Rattle.d64_files.specs.Chain.{link_at}
use Rattle.d64_survey.specs.Way.{way_on, block_at}
use Rattle.d64_survey.specs.declared.way_end.WayEnd.{WayEnd}
use Rattle.d64_survey.specs.declared.way_end.WayEnd.TheVariants.{End, Off, Loop}

-- if the image has no block of the pair, the way ends there
pub off : (left : ℕ) (image : List (List ℕ)) (walked : List ℕ) (pair : ℕ × ℕ) → way_on left image walked pair None ≡ (walked, Off pair.0 pair.1)
unfolding way_on
off zero image walked pair = refl
off (suc left) image walked pair = refl

-- the way goes on from a block
abbrev pub from_block : ℕ → List (List ℕ) → List ℕ → ℕ → List ℕ × WayEnd
from_block left image walked block =
    cond (eqb (link_at image block).0 0) (walked ++ block ∷ [], End)
    (way_on left image (walked ++ block ∷ []) (link_at image block) (block_at image (link_at image block)))

-- if the pair's block is walked already, the way ends there
pub loops : (left : ℕ) (image : List (List ℕ)) (walked : List ℕ) (pair : ℕ × ℕ) (block : ℕ) → list_any (eqb block) walked ≡ true
    → way_on left image walked pair (Some block) ≡ (walked, Loop pair.0 pair.1)
unfolding way_on
loops zero image walked pair block found = refl
loops (suc left) image walked pair block found = ap (λ (t : Bool). cond t (walked, Loop pair.0 pair.1) (from_block left image walked block)) found

-- if it isn't, the way has it, and goes on from it
pub fresh_step : (left : ℕ) (image : List (List ℕ)) (walked : List ℕ) (pair : ℕ × ℕ) (block : ℕ) → list_any (eqb block) walked ≡ false
    → way_on (suc left) image walked pair (Some block) ≡ from_block left image walked block
unfolding way_on
fresh_step left image walked pair block fresh = ap (λ (t : Bool). cond t (walked, Loop pair.0 pair.1) (from_block left image walked block)) fresh

-- a way ends after a block whose link has track 0
pub ends : (left : ℕ) (image : List (List ℕ)) (walked : List ℕ) (block : ℕ) → eqb (link_at image block).0 0 ≡ true → from_block left image walked block ≡ (walked ++ block ∷ [], End)
ends left image walked block last =
    ap (λ (t : Bool). cond t (walked ++ block ∷ [], End) (way_on left image (walked ++ block ∷ []) (link_at image block) (block_at image (link_at image block)))) last

-- and else goes on from the link's pair
pub goes_on : (left : ℕ) (image : List (List ℕ)) (walked : List ℕ) (block : ℕ) → eqb (link_at image block).0 0 ≡ false
    → from_block left image walked block ≡ way_on left image (walked ++ block ∷ []) (link_at image block) (block_at image (link_at image block))
goes_on left image walked block on =
    ap (λ (t : Bool). cond t (walked ++ block ∷ [], End) (way_on left image (walked ++ block ∷ []) (link_at image block) (block_at image (link_at image block)))) on
