use Rattle.std.proofs.Common.{◌≡◌, length, refl, arith}
use Rattle.cbm_text.specs.declared.faulty_text.FaultyLine.{FaultyLine}
use Rattle.cbm_text.proofs.FaultyTexts.{full}
use Rattle.cbm_text.proofs.faulty_text.noted.Goals as goal

-- as many are kept as asked for
pub returns-else-len-most : goal.returns-else-len-most
returns-else-len-most c =
    let line : FaultyLine = record { fault = c.in-Err.fault; cause = c.in_ok-cause.cause; text = c.args.text } in
    let is : length c.args.lines.now.items ≡ c.args.most = omega arith in
    rw c.in-Err.is (refl, line, refl, c.in_ok-cause.ensures, refl, full c.args.most c.args.lines.now.items _ is)
