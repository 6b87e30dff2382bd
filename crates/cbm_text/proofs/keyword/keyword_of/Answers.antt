use Rattle.std.proofs.Common.{sym, arith}
use Rattle.cbm_text.proofs.Keywords.{keyword_below, keyword_past}
use Rattle.cbm_text.proofs.keyword.keyword_of.Goals as goal

pub returns-in-0-to-127 : goal.returns-in-0-to-127
returns-in-0-to-127 c = sym (keyword_below c.args.token (omega arith))

pub returns-in-204-to-255 : goal.returns-in-204-to-255
returns-in-204-to-255 c = sym (keyword_past c.args.token (omega arith))
