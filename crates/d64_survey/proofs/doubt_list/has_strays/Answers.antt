use Rattle.std.proofs.Common.{ℕ, ◌&&◌, not, ltb, Bool, List, length, sym, ap, ◌∙◌}
use Rattle.std.specs.List.{list_any, range_with_len}
use Rattle.std.specs.Ordering.{nat_cmp}
use Rattle.std.specs.FinSet as set
use Rattle.d64_map.specs.Map.{free_blocks}
use Rattle.d64_survey.specs.Owners.{is_owned}
use Rattle.d64_survey.specs.Doubts.{is_for_geos, is_stray, has_strays}
use Rattle.d64_survey.proofs.doubt_list.has_strays.Goals as goal

-- there is such a block among these
abbrev is_among : List (List ℕ) → List ℕ → set.FinSet nat_cmp → Bool
is_among image bs free = list_any (λ block. ltb block 683 && (not (is_owned image block) && not (set.contains free block))) bs

-- there is one in the image
abbrev is_any : List (List ℕ) → Bool
is_any image = list_any (is_stray image) (range_with_len 0 (length image))

-- a disk of GEOS
pub returns-then-is_for_geos : goal.returns-then-is_for_geos
unfolding has_strays
returns-then-is_for_geos c =
    let image = c.args.survey.now in
    ap (λ (t : Bool). not t && is_any image) (sym c.if-is_for_geos.true ∙ c.is_for_geos.ensures ∙ ap is_for_geos c.image-image.ensures)

-- the blocks of another one
pub loop-block-init : goal.loop-block-init
unfolding has_strays
loop-block-init c =
    let image = c.args.survey.now in
    let same = c.image-image.ensures in
    let items = c.into_iter-block-iterator.ensures.into_iter_gives ∙ c.blocks-block-items.ensures.value in
    ap (λ (bs : List ℕ). is_among image bs c.free_set-free.result) (items ∙ ap (λ (i : List (List ℕ)). range_with_len 0 (length i)) same)
    ∙ ap (λ (free : set.FinSet nat_cmp). is_among image (range_with_len 0 (length image)) free) (c.free_set-free.ensures ∙ ap free_blocks same)
    ∙ ap (λ (t : Bool). not t && is_any image) (sym c.if-is_for_geos.false ∙ c.is_for_geos.ensures ∙ ap is_for_geos same)
