use Rattle.std.proofs.Common.{◌∙◌}
use Rattle.d64_history.proofs.Sessions.{holds, record_lens}
use Rattle.d64_undo.proofs.session.Session.record_len.Goals as goal

pub returns : goal.returns
returns c = c.len_of.ensures ∙ record_lens c.args.number (holds c.self.invariant c.self.view_is)
