use Rattle.std.proofs.Common.{◌≡◌, ℕ, replicate, ap, ◌∙◌, arith}
use Rattle.d64_image.specs.declared.image.TheConstants.{BLOCK_BYTES}
use Rattle.d64_image.proofs.image.blank.Goals as goal

-- after the loop as many blocks were pushed as were asked for
pub returns : goal.returns
returns c =
    let e : c.loop.counter ≡ c.args.count = omega arith in
    c.loop.invariant ∙ ap (λ (n : ℕ). replicate n (replicate BLOCK_BYTES 0)) e
