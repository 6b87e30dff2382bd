use Rattle.cbm_text.proofs.WholeTexts.{text_comes_back}
use Rattle.cbm_text.proofs.laws.text_comes_back.Goals as goal

pub returns : goal.returns
returns c = text_comes_back c.args.start c.args.text.now
