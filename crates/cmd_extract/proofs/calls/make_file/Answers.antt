use Rattle.std.proofs.Common.{◌≡◌, ℕ, Bool, true, false, List, refl, sym, subst}
use Rattle.std.specs.Str.{is_utf8}
use Rattle.std.proofs.lemmas.Bool.{false_from_ne_true}
use Rattle.std.proofs.lemmas.Str.{is_utf8-from_IsUtf8, IsUtf8-from_is_utf8}
use Rattle.cmd_extract.specs.Work.{SaysFile}
use Rattle.cmd_extract.proofs.calls.make_file.Goals as goal

pub returns-in-Ok : goal.returns-in-Ok
returns-in-Ok g c =
    let path = c.args.path.now in
    let bytes = c.args.bytes.now in
    let old = g.H.Host.state c.args.host.now in
    let new = g.H.Host.state c.make_file.new.self in
    let text : is_utf8 path ≡ true = is_utf8-from_IsUtf8 path c.in-Ok.ensures.cases.1 in
    subst (λ (t : Bool). SaysFile t path bytes old c.is_ok.result new) (sym text)
    (subst (λ (p : List ℕ). SaysFile true p bytes old c.is_ok.result new) c.in-Ok.ensures.cases.0
    (c.make_file.result, (c.make_file.ensures.made, c.make_file.ensures.counted), c.is_ok.ensures.value))

pub returns-in-Err : goal.returns-in-Err
returns-in-Err g c =
    let path = c.args.path.now in
    let bytes = c.args.bytes.now in
    let old = g.H.Host.state c.args.host.now in
    let no_text : is_utf8 path ≡ false = false_from_ne_true (is_utf8 path) (λ passes. c.in-Err.ensures.cases.0 (IsUtf8-from_is_utf8 path passes)) in
    subst (λ (t : Bool). SaysFile t path bytes old false old) (sym no_text) (refl, refl)
