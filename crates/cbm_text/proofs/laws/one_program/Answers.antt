use Rattle.cbm_text.proofs.WholeTexts.{reads_once, is_unambiguous}
use Rattle.cbm_text.proofs.laws.one_program.Goals as goal

pub returns : goal.returns
returns c = record { of_file = reads_once c.args.file.now; of_text = is_unambiguous c.args.start c.args.text.now }
