use Rattle.std.proofs.Common.{◌≡◌, ◌++◌, List, ℕ, ap, ◌∙◌, subst}
use Rattle.std.specs.Result.{OnOk}
use Rattle.std.proofs.lemmas.Result.{IfErr-weaker}
use Rattle.d64_history.specs.Resuming.{given_bytes, Fails}
use Rattle.d64_history.specs.ResumeFault.{parts_at, reported_by, first_resume_fault}
use Rattle.d64_history.proofs.Given.{given_more}
use Rattle.d64_history.proofs.Resumed.{session_fails}
use Rattle.d64_history.proofs.resuming.Resuming.push.Goals as goal

-- what is given then, before it is read
joined : (c : goal.After-read_on) → given_bytes c.self.inside.parts c.extend_from_slice.new.self.items ≡ c.args.self.now ++ c.args.piece.now
joined c =
    ap (given_bytes c.self.inside.parts) c.in_ok-extend_from_slice.ensures.items
    ∙ given_more c.self.inside.parts c.self.inside.rest.items c.args.piece.now
    ∙ ap (λ (bytes : List ℕ). bytes ++ c.args.piece.now) c.self.view_is

-- what is a fault of the parts is one of the session
pub returns-clause-refused : goal.returns-clause-refused
returns-clause-refused c =
    IfErr-weaker c.read_on.result
    (λ fault. (more : List ℕ) → Fails fault (parts_at (given_bytes c.self.inside.parts c.extend_from_slice.new.self.items ++ more)))
    (λ fault. (more : List ℕ) → reported_by fault (first_resume_fault (c.args.self.now ++ c.args.piece.now ++ more)) ≡ first_resume_fault (c.args.self.now ++ c.args.piece.now ++ more))
    (λ fault fails more. session_fails fault (c.args.self.now ++ c.args.piece.now ++ more)
    (subst (λ (bytes : List ℕ). Fails fault (parts_at (bytes ++ more))) (joined c) (fails more)))
    c.read_on.ensures.refused

pub returns-clause-given : goal.returns-clause-given
returns-clause-given c =
    subst (λ (bytes : List ℕ). OnOk c.read_on.result (c.read_on.new.self ≡ bytes)) (joined c) c.read_on.ensures.given
