use Rattle.std.proofs.Common.{◌≡◌, ◌+◌, ◌<◌, length, get_or, drop, sym, ap, ◌∙◌, arith}
use Rattle.std.specs.Prelude.{fold}
use Rattle.std.specs.FinSet as set
use Rattle.std.specs.Ordering.{nat_cmp}
use Rattle.std.proofs.lemmas.List.{drop_more, get_or_default}
use Rattle.d64_dos.proofs.undelete.remove_all.Goals as goal

pub loop-block-preserved : goal.loop-block-preserved
loop-block-preserved c =
    let blocks = c.args.blocks.now in
    let k = c.loop-block.block-index in
    let within : k < length blocks = omega arith in
    let item : c.block-item.result ≡ get_or blocks k 0 = c.block-item.is ∙ get_or_default blocks k c.block-item.result 0 within in
    let next : c.remove.new.self ≡ set.remove c.loop-block.free (get_or blocks k 0) = c.remove.ensures.value ∙ ap (set.remove c.loop-block.free) item in
    ap (λ (free : set.FinSet nat_cmp). fold set.remove free (drop (k + 1) blocks)) next
    ∙ ap (fold set.remove c.loop-block.free) (sym (drop_more blocks k 0 within))
    ∙ c.loop-block.invariant
