use Rattle.std.proofs.Common.{◌≡◌, ℕ, Bool, true, false, List, None, refl, sym, subst}
use Rattle.std.specs.Str.{is_utf8}
use Rattle.std.proofs.lemmas.Bool.{false_from_ne_true}
use Rattle.std.proofs.lemmas.Str.{is_utf8-from_IsUtf8, IsUtf8-from_is_utf8}
use Rattle.cmd_extract.specs.Work.{IsReasonAt}
use Rattle.cmd_extract.proofs.calls.reason_at.Goals as goal

pub returns-in-Ok : goal.returns-in-Ok
returns-in-Ok g c =
    let path = c.args.path.now in
    let host = g.H.Host.state c.args.host.now in
    let text : is_utf8 path ≡ true = is_utf8-from_IsUtf8 path c.in-Ok.ensures.cases.1 in
    subst (λ (t : Bool). IsReasonAt t host.files path c.reason_unwritten.result) (sym text)
    (subst (λ (p : List ℕ). IsReasonAt true host.files p c.reason_unwritten.result) c.in-Ok.ensures.cases.0 c.reason_unwritten.ensures)

pub returns-in-Err : goal.returns-in-Err
returns-in-Err g c =
    let path = c.args.path.now in
    let host = g.H.Host.state c.args.host.now in
    let no_text : is_utf8 path ≡ false = false_from_ne_true (is_utf8 path) (λ passes. c.in-Err.ensures.cases.0 (IsUtf8-from_is_utf8 path passes)) in
    subst (λ (t : Bool). IsReasonAt t host.files path None) (sym no_text) refl
