use Rattle.std.proofs.Common.{◌≡◌, ℕ, ◌<◌, not, nat_eq, Bool, if◌then◌else◌, List, [], ◌∷◌, ◌++◌, length, sym, ap, ◌∙◌, subst}
use Rattle.std.specs.List.{All, filter}
use Rattle.std.specs.Cmp.Lexicographic.{pointwise}
use Rattle.std.proofs.lemmas.List.Elements.{All-head, All-tail}
use Rattle.d64_image.specs.Image.{sector_at}
use Rattle.cmd_diff.proofs.Keeping.{kept_more, all_below}
use Rattle.cmd_diff.proofs.blocks.list_differences.Goals as goal

-- the test by which a block is kept
abbrev differ : List (List ℕ) → List (List ℕ) → ℕ → Bool
differ image other block = not (pointwise nat_eq (sector_at image block) (sector_at other block))

pub loop-block-init : goal.loop-block-init
loop-block-init c =
    let image = c.args.image.now in
    let other = c.args.other.now in
    let items = c.into_iter-block-iterator.ensures.into_iter_gives ∙ c.blocks-block-items.ensures.value in
    record {
      kept = ap (λ (bs : List ℕ). bs ++ filter (differ image other) c.into_iter-block-iterator.result) c.clear.ensures.items ∙ ap (filter (differ image other)) items;
      within = subst (All (λ block. block < length image)) (sym items) (all_below (length image));
    }

pub sector-requires : goal.sector-requires
sector-requires c =
    All-head (λ block. block < length c.args.image.now) c.in-Some.block c.next.new.self (subst (All (λ block. block < length c.args.image.now)) c.in-Some.ensures.steps c.loop-block.invariant.within)

pub loop-block-preserved : goal.loop-block-preserved
loop-block-preserved c =
    let image = c.args.image.now in
    let other = c.args.other.now in
    let kept = c.loop-block.blocks.items in
    let block = c.in-Some.block in
    let rest = c.next.new.self in
    let reported : not c.has_bytes-differs.result ≡ differ image other block =
    ap not (c.has_bytes-differs.ensures ∙ ap (λ (bytes : List ℕ). pointwise nat_eq bytes (sector_at other block)) c.sector.ensures.value) in
    record {
      kept = ap (λ (bs : List ℕ). bs ++ filter (differ image other) rest) (c.in_ok-keep_if.ensures ∙ ap (λ (k : Bool). kept ++ (if k then block ∷ [] else [])) reported)
          ∙ kept_more (differ image other) kept block rest
          ∙ ap (λ (bs : List ℕ). kept ++ filter (differ image other) bs) (sym c.in-Some.ensures.steps)
          ∙ c.loop-block.invariant.kept;
      within = All-tail (λ block. block < length image) block rest (subst (All (λ block. block < length image)) c.in-Some.ensures.steps c.loop-block.invariant.within);
    }
