use Rattle.std.proofs.Common.{rules}
use Rattle.std.specs.Str.{is_utf8}
use Rattle.std.proofs.lemmas.Bool.{false_from_ne_true}
use Rattle.std.proofs.lemmas.Str.{is_utf8-from_IsUtf8, IsUtf8-from_is_utf8}
use Rattle.program_surveys.proofs.open_name.OpenName.asked.Goals as goal

-- the bytes are UTF-8
pub returns-in-Ok : goal.returns-in-Ok
returns-in-Ok c =
    let passes = is_utf8-from_IsUtf8 c.as_slice-bytes.result.now c.in-Ok.ensures.cases.1 in
    search (rules, passes)

-- they are not
pub returns-in-Err : goal.returns-in-Err
returns-in-Err c =
    let fails = false_from_ne_true (is_utf8 c.as_slice-bytes.result.now) (λ passes. c.in-Err.ensures.cases.0 (IsUtf8-from_is_utf8 c.as_slice-bytes.result.now passes)) in
    search (rules, fails)
