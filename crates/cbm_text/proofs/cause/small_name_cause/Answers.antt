use Rattle.std.proofs.Common.{rules}
use Rattle.std.specs.Str.{is_utf8}
use Rattle.std.proofs.lemmas.Bool.{false_from_ne_true}
use Rattle.std.proofs.lemmas.Str.{is_utf8-from_IsUtf8, IsUtf8-from_is_utf8}
use Rattle.cbm_text.proofs.cause.small_name_cause.Goals as goal

-- the name is UTF-8
pub returns-in-Ok : goal.returns-in-Ok
returns-in-Ok c =
    let passes = is_utf8-from_IsUtf8 c.args.name.now c.in-Ok.ensures.cases.1 in
    search (rules, passes)

-- it isn't
pub returns-in-Err : goal.returns-in-Err
returns-in-Err c =
    let fails = false_from_ne_true (is_utf8 c.args.name.now) (λ passes. c.in-Err.ensures.cases.0 (IsUtf8-from_is_utf8 c.args.name.now passes)) in
    search (rules, fails)
