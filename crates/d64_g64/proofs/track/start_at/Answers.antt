use Rattle.std.proofs.Common.{ℕ, ◌*◌, ◌<◌, List, length, get_or, sym, subst}
use Rattle.d64_g64.specs.Starts.{starts_on}
use Rattle.d64_g64.proofs.StartLists.{starts_below, some_byte}
use Rattle.d64_g64.proofs.track.start_at.Goals as goal

pub invariant_of-result : goal.invariant_of-result
invariant_of-result c =
    let track = c.track.inside.bytes.now in
    let held = subst (λ (bytes : List ℕ). c.args.index < length (starts_on bytes)) (sym c.track.view_is) c.requires in (
      (some_byte track c.args.index held, c.track.invariant.0),
      subst (λ (xs : List ℕ). get_or xs c.args.index 0 < 8 * length track) (sym c.track.invariant.1) (starts_below track c.args.index held),
    )
