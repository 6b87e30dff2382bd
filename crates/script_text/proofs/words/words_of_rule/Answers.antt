use Rattle.script_text.proofs.WordRule.{words_of_rule}
use Rattle.script_text.proofs.words.words_of_rule.Goals as goal

pub returns : goal.returns
returns c = words_of_rule c.args.line.now
