use Rattle.std.proofs.Common.{◌≡◌, ℕ, ◌+◌, ◌-◌, ◌*◌, ◌/◌, ◌%◌, ◌^◌, sym, ap, ◌∙◌, arith}
use Rattle.d64_g64.specs.Circle.{bits_from}
use Rattle.d64_g64.proofs.Circles.{three, bits_of_three}
use Rattle.d64_g64.proofs.circle.ten_bits.Goals as goal

pub returns-clause-value : goal.returns-clause-value
returns-clause-value c =
    let track = c.args.track.now in
    let place = c.args.place in
    let shift : 14 - place % 8 ≡ 24 - place % 8 - 10 = omega arith in
    let whole : 8 * (place / 8) + place % 8 ≡ place = omega arith in
    ap (λ (x : ℕ). x / 2 ^ (14 - place % 8) % 1024) c.three_bytes.ensures.value
    ∙ ap (λ (x : ℕ). three track (place / 8) / 2 ^ x % 1024) shift
    ∙ sym (bits_of_three track (place / 8) (place % 8) 10 (λ k. (c.type_inv.track k).fits) (omega arith))
    ∙ ap (λ (x : ℕ). bits_from track x 10) whole
