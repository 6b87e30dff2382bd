use Rattle.std.proofs.Common.{◌≡◌, ℕ, ◌+◌, ◌*◌, ◌<◌, length, get_or, sym, ap, ◌∙◌, arith}
use Rattle.std.specs.Prelude.{count_ones}
use Rattle.std.specs.FinSet.{len}
use Rattle.d64_image.specs.BlockSet.{marked_below}
use Rattle.d64_image.proofs.Sets.{none_counted, word_counted, len-marked_below, members_are_blocks}
use Rattle.d64_image.proofs.block_set.BlockSet.count.Goals as goal

pub loop-place-init : goal.loop-place-init
loop-place-init c = record { counted = sym (none_counted c.self.inside.words); below = omega arith }

pub loop-place-preserved : goal.loop-place-preserved
loop-place-preserved c =
    let words = c.self.inside.words in
    let place = c.loop-place.place in
    let ones : ℕ = count_ones (get_or words place 0) in
    let held : place < length words = let all = c.self.invariant.all in let test = c.loop-place-test.true in omega arith in
    let counted : c.loop-place.count + ones ≡ len (marked_below (32 * (place + 1)) words) =
    ap (λ (n : ℕ). n + ones) c.loop-place.invariant.counted ∙ sym (word_counted words place c.self.invariant held) in
    let most = len-marked_below (32 * (place + 1)) words in
    record { counted = counted; below = omega (arith, counted, most) }

pub returns-clause-blocks : goal.returns-clause-blocks
returns-clause-blocks c = members_are_blocks c.self.inside.words c.args.self.now c.self.view_is
