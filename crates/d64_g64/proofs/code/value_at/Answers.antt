use Rattle.std.proofs.Common.{ℕ, ◌+◌, ◌*◌, ap, ◌∙◌}
use Rattle.d64_g64.specs.Circle.{bits_from}
use Rattle.d64_g64.specs.Codes.{byte_of_bits, value_at}
use Rattle.d64_g64.specs.Starts.{TrackPlace}
use Rattle.d64_g64.proofs.Circles.{bits_around}
use Rattle.d64_g64.proofs.code.value_at.Goals as goal

pub returns : goal.returns
unfolding value_at
returns c =
    let track = c.start.inside.track.now in
    c.byte_of_bits.ensures
    ∙ ap byte_of_bits (c.ten_bits.ensures.value ∙ ap (λ (x : ℕ). bits_from track x 10) c.around.ensures.value ∙ bits_around track (c.start.inside.place + 10 * c.args.k) 10)
    ∙ ap (λ (p : TrackPlace). value_at p.track p.place c.args.k) c.start.view_is
