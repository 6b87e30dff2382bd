use Rattle.std.proofs.Common.{Some, None}
use Rattle.cbm_text.proofs.CodesSoFar.{nothing_first, token_first, single_at}
use Rattle.cbm_text.proofs.codes.next_code.Goals as goal

pub returns-in_default : goal.returns-in_default
returns-in_default c = nothing_first c.args.mode c.args.text.now c.in_default.len_below

pub returns-in-Some : goal.returns-in-Some
returns-in-Some c = token_first c.args.mode c.args.text.now c.in-Some.found.0 c.in-Some.found.1.now c.in-Free.is c.in-len1-up.len_at_least c.in-Some.ensures

pub returns-in_ok-code_of_byte-in-None : goal.returns-in_ok-code_of_byte-in-None
returns-in_ok-code_of_byte-in-None c =
    single_at c.args.mode c.args.text.now (Some c.in_ok-code_of_byte-in-None.field-0) c.in-Free.is c.in-len1-up.len_at_least c.in-None.ensures c.in_ok-code_of_byte-in-None.ensures

pub returns-in_err-code_of_byte-in-None : goal.returns-in_err-code_of_byte-in-None
returns-in_err-code_of_byte-in-None c =
    rw c.from_residual.ensures
    (single_at c.args.mode c.args.text.now None c.in-Free.is c.in-len1-up.len_at_least c.in-None.ensures c.in_err-code_of_byte-in-None.ensures)
