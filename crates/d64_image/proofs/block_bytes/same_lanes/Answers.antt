use Rattle.std.proofs.Common.{◌≡◌, ℕ, ◌%◌, ◌^◌, Bool, List, length, not, nat_eq, sym, ap, ◌∙◌, arith, w8}
use Rattle.std.specs.Simd.Lanes.{mask_l, zip2, chunk}
use Rattle.std.proofs.lemmas.Simd.{length-chunk, length-zip2, tops_compared, mask_l-mod}
use Rattle.d64_image.proofs.SameBytes.{mask-pointwise}
use Rattle.d64_image.proofs.block_bytes.same_lanes.Goals as goal

-- no bit of the mask is set
pub returns : goal.returns
returns c =
    let xs : List ℕ = chunk c.args.start 32 c.args.block.now in
    let ys : List ℕ = chunk c.args.start 32 c.args.other.now in
    let differ : ℕ → ℕ → Bool = λ (a b : ℕ). not (nat_eq a b) in
    let long : length xs ≡ length ys = length-chunk c.args.start 32 c.args.block.now c.requires.block ∙ sym (length-chunk c.args.start 32 c.args.other.now c.requires.other) in
    let count = length-zip2 differ xs ys long ∙ length-chunk c.args.start 32 c.args.block.now c.requires.block in
    ap (λ (n : ℕ). nat_eq n 0) (ap (λ (bits : List Bool). mask_l bits % 2 ^ 64) (tops_compared w8 differ xs ys) ∙ mask_l-mod (zip2 differ xs ys) 64 (omega arith))
    ∙ mask-pointwise xs ys long
