use Rattle.std.proofs.Common.{arith}
use Rattle.d64_history.proofs.Sessions.{holds, cursor-is, image_count}
use Rattle.d64_undo.proofs.session.Session.undone.Goals as goal

-- there is one image more than records
pub returns-clause-count : goal.returns-clause-count
returns-clause-count c =
    let within = c.self.invariant.0 in
    let held = holds c.self.invariant c.self.view_is in
    let cursor = cursor-is held in
    let images = image_count held in
    omega arith
