use Rattle.std.proofs.Common.{ℕ, ◌+◌, ◌*◌, ◌/◌, ◌%◌, ◌^◌, cond, ap, ap₂, ◌∙◌}
use Rattle.std.specs.Int.{bit_at}
use Rattle.std.specs.Ordering.{nat_cmp}
use Rattle.std.specs.FinSet as set
use Rattle.d64_image.proofs.Windows.{bits_decide}
use Rattle.d64_image.proofs.block_set.BlockSet.bits_from.Goals as goal

pub returns : goal.returns
returns c = λ bit few.
    let words = c.self.inside.words in
    let first = c.args.first in
    ap (λ (n : ℕ). bit_at n bit)
    (c.bits_within.ensures ∙ ap₂ (λ (next word : ℕ). (next * 2 ^ 32 + word) / 2 ^ (first % 32) % 2 ^ 32) c.word_at-next.ensures c.word_at-word.ensures)
    ∙ bits_decide words first bit c.self.invariant few
    ∙ ap (λ (members : set.FinSet nat_cmp). cond (set.contains members (first + bit)) 1 0) c.self.view_is
