use Rattle.std.proofs.Common.{sym}
use Rattle.d64_history.proofs.Sessions.{holds, present_is, lies}
use Rattle.d64_undo.proofs.session.Session.image.Goals as goal

pub returns-clause-present : goal.returns-clause-present
returns-clause-present c = sym (present_is (holds c.self.invariant c.self.view_is))

pub returns-clause-history : goal.returns-clause-history
returns-clause-history c = lies (holds c.self.invariant c.self.view_is)
