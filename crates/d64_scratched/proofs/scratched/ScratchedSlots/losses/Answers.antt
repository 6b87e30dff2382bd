use Rattle.std.proofs.Common.{◌≡◌, ◌∙◌, ℕ, List, ap, ap₂, rules}
use Rattle.std.specs.Prelude.{option_map}
use Rattle.d64_survey.specs.Way.{way}
use Rattle.d64_survey.specs.declared.way_end.WayEnd.{WayEnd}
use Rattle.d64_scratched.specs.Scratched.{losses_by, losses}
use Rattle.d64_scratched.proofs.scratched.ScratchedSlots.losses.Goals as goal

pub returns : goal.returns
unfolding losses
returns c =
    let entry = c.args.entry.now in
    let image : c.image.result.now ≡ c.args.self.now = search rules in
    let walked = ap (λ (blocks : List ℕ). (blocks, c.walk-end.result)) c.as_slice.ensures.value
    ∙ c.walk-end.ensures.way
    ∙ ap₂ (λ (i : List (List ℕ)) (pair : ℕ × ℕ). way i pair) image c.first_pair-track.ensures in
    c.losses_along.ensures
    ∙ ap (λ (walked : List ℕ × WayEnd). losses_by c.args.self.now (option_map (λ codes. codes.now) c.args.codes) entry.slot entry.bytes walked) walked
