use Rattle.cbm_text.proofs.LinesBack.{crunches_once, lists_once, comes_back}
use Rattle.cbm_text.proofs.laws.line_comes_back.Goals as goal

pub returns-clause-once : goal.returns-clause-once
returns-clause-once c = crunches_once c.args.bytes.now

pub returns-clause-lists_once : goal.returns-clause-lists_once
returns-clause-lists_once c = lists_once c.args.codes.now

pub returns-clause-back : goal.returns-clause-back
returns-clause-back c = comes_back c.args.bytes.now c.args.codes.now
