use Rattle.std.proofs.Common.{◌∙◌, ℕ, ◌<◌, List, ap, arith, rules}
use Rattle.d64_image.specs.declared.block.TheConstants.{BLOCKS}
use Rattle.d64_scratched.specs.Scratched.{is_claimed_below}
use Rattle.d64_scratched.proofs.Noted.{claimed_past}
use Rattle.d64_scratched.proofs.scratched.ScratchedSlots.is_claimed.Goals as goal

pub returns-else-slot-lt-MOST_SLOTS : goal.returns-else-slot-lt-MOST_SLOTS
returns-else-slot-lt-MOST_SLOTS c =
    let image = c.self.inside.survey.now in
    let within : c.args.block < BLOCKS = search rules in
    let listed = c.self.invariant.1 c.args.block 6144 within (omega arith) in
    c.is_below-else-slot-lt-MOST_SLOTS.ensures
    ∙ listed
    ∙ claimed_past image c.args.slot 6144 c.args.block c.self.invariant.2 c.if-slot-lt-MOST_SLOTS.false
    ∙ ap (λ (i : List (List ℕ)). is_claimed_below i c.args.slot c.args.block) c.self.view_is
