use Rattle.std.proofs.Common.{◌≡◌, ℕ, ◌+◌, ◌<◌, ◌≤◌, List, [], ◌∷◌, ◌++◌, length, sym, ap, ◌∙◌, subst, arith, inl, inr, length-append, append-nil}
use Rattle.std.specs.Prelude.{All, filter}
use Rattle.std.specs.List.{range_with_len}
use Rattle.std.proofs.lemmas.List.Elements.{All-filter}
use Rattle.std.proofs.lemmas.List.FromFn.{length-range_with_len, get_or-range_with_len}
use Rattle.d64_image.specs.declared.block.TheConstants.{BLOCKS}
use Rattle.d64_leftovers.specs.Orphans.{is_block_left, left_blocks}
use Rattle.d64_leftovers.proofs.LeftBlocks.{filter-short}
use Rattle.d64_leftovers.proofs.left_blocks.left_blocks.Goals as goal

pub push-requires : goal.push-requires
push-requires c =
    let image = c.args.survey.now in
    let invariant = c.loop-block.invariant in
    let done = c.loop-block.yielded in
    let split : length (range_with_len 0 (length image)) ≡ length (done ++ c.in-Some.block ∷ c.next.new.self) = ap length (invariant.split ∙ ap (λ (left : List ℕ). done ++ left) c.in-Some.ensures.steps) in
    let counted = length-range_with_len 0 (length image) in
    let added = length-append done (c.in-Some.block ∷ c.next.new.self) in
    let kept : length c.loop-block.left ≤ length done = subst (λ (l : List ℕ). length l ≤ length done) (sym invariant.left) (filter-short (is_block_left image) done) in
    let same : length c.image.result.now ≡ length image = ap length c.image.ensures in
    elim c.blocks-block-items.ensures.size [
      | inl small ↦ omega (arith, split, counted, added, kept, same, small)
      | inr large ↦ omega (arith, split, counted, added, kept, same, large)
    ]

pub returns-clause-left : goal.returns-clause-left
unfolding left_blocks
returns-clause-left c =
    let invariant = c.loop-block.invariant in
    let done = c.loop-block.yielded in
    invariant.left ∙ ap (filter (is_block_left c.args.survey.now)) (sym (invariant.split ∙ ap (λ (left : List ℕ). done ++ left) c.in-None.ensures.steps.0 ∙ append-nil done))

pub returns-clause-held : goal.returns-clause-held
returns-clause-held c =
    let image = c.args.survey.now in
    let invariant = c.loop-block.invariant in
    let done = c.loop-block.yielded in
    let all : All (λ b. b < length image) (range_with_len 0 (length image)) =
    λ k d within.
    let counted = length-range_with_len 0 (length image) in
    let small : k < length image = omega (arith, counted, within) in
    let is = get_or-range_with_len 0 (length image) k d small in
    omega (arith, is, small)
    in
    let some : All (λ b. b < length image) done = subst (All (λ b. b < length image)) (invariant.split ∙ ap (λ (left : List ℕ). done ++ left) c.in-None.ensures.steps.0 ∙ append-nil done) all in
    subst (All (λ b. b < length image)) (sym invariant.left) (All-filter (is_block_left image) (λ b. b < length image) done some)
