use Rattle.std.proofs.Common.{◌≡◌, List, ℕ, subst}
use Rattle.std.specs.Prelude.{IfOk}
use Rattle.d64_history.proofs.SessionFiles.{file-held, holds-session}
use Rattle.d64_history.proofs.Sessions.{holds}
use Rattle.d64_undo.proofs.session.Session.keep.Goals as goal

-- what the session holds is what the file of its history says
pub returns-clause-file : goal.returns-clause-file
returns-clause-file c =
    subst (λ (bytes : List ℕ). IfOk c.session_file.result (λ file. file.items ≡ bytes))
    (file-held (holds c.self.invariant c.self.view_is)) c.session_file.ensures.file

-- its images are those of disks
pub returns-clause-session : goal.returns-clause-session
returns-clause-session c =
    holds-session (holds c.self.invariant c.self.view_is) c.session_file.ensures.count c.session_file.ensures.image c.session_file.ensures.blocks
