use Rattle.std.proofs.Common.{◌≡◌, ◌≢◌, true, ℕ, ◌<◌, List, [], length, sym, ap, ◌∙◌, subst, arith}
use Rattle.std.specs.Prelude.{All}
use Rattle.std.proofs.lemmas.Grind.{get_or_default_zero}
use Rattle.d64_image.specs.Image.{sector_at}
use Rattle.d64_files.specs.Chain.{LieIn}
use Rattle.d64_files.specs.Slot.{cells, HasKind}
use Rattle.d64_files.specs.Directory.{directory, slots_in}
use Rattle.d64_files.proofs.Conditions.{both_hold, unknown_kind}
use Rattle.d64_files.proofs.SlotLists.{all_kinds, kinds_of_block, directory-lies}
use Rattle.d64_files.proofs.directory_blocks.Directory.of.Goals as goal

pub returns-then-not-kinds_are_known-clause-conditions : goal.returns-then-not-kinds_are_known-clause-conditions
returns-then-not-kinds_are_known-clause-conditions c =
    let image = c.args.image.now in
    let items = c.as_slice-block-items.result.now in
    let index = c.loop-block.block-index in
    let found : c.fill_from.result ≡ true = let is = c.if-not-fill_from.false in cc in
    let exists : directory image ≢ [] = c.fill_from.ensures.exists.0 found in
    let same : items ≡ directory image = c.as_slice-block-items.ensures.value ∙ c.fill_from.ensures.value found in
    unknown_kind image exists (λ all.
    let there = subst (λ (bs : List ℕ). All HasKind (slots_in image bs)) (sym same) all in
    let block = c.block-item.is ∙ get_or_default_zero items index c.block-item.result (omega arith) in
    let here = subst (λ (s : List ℕ). All HasKind (cells s)) (sym (c.sector.ensures.value ∙ ap (sector_at image) block)) (kinds_of_block image items index (omega arith) there) in
    let known = c.kinds_are_known.ensures.1 here in
    let unknown = c.if-not-kinds_are_known.true in
    absurd (cc))

-- there is a directory
found : (c : goal.After-loop-block) → c.fill_from.result ≡ true
found c = let is = c.if-not-fill_from.false in cc

-- all slots of the directory have kinds
kinds : (c : goal.After-loop-block) → All HasKind (slots_in c.args.image.now (directory c.args.image.now))
kinds c =
    subst (λ (bs : List ℕ). All HasKind (slots_in c.args.image.now bs)) (c.as_slice-block-items.ensures.value ∙ c.fill_from.ensures.value (found c))
    (all_kinds c.args.image.now c.as_slice-block-items.result.now (λ k within. c.loop-block.invariant k (omega arith)))

-- the image has the block that is read
pub sector-requires : goal.sector-requires
sector-requires c =
    let image = c.args.image.now in
    let items = c.as_slice-block-items.result.now in
    let found : c.fill_from.result ≡ true = let is = c.if-not-fill_from.false in cc in
    let same : items ≡ directory image = c.as_slice-block-items.ensures.value ∙ c.fill_from.ensures.value found in
    subst (λ (b : ℕ). b < length image) (sym c.block-item.is) (subst (LieIn image) (sym same) (directory-lies image) c.loop-block.block-index c.block-item.result (omega arith))

pub invariant_of-result : goal.invariant_of-result
invariant_of-result c = (c.fill_from.ensures.value (found c), c.fill_from.ensures.exists.0 (found c), kinds c)

pub returns-clause-conditions : goal.returns-clause-conditions
returns-clause-conditions c = both_hold c.args.image.now (c.fill_from.ensures.exists.0 (found c)) (kinds c)
