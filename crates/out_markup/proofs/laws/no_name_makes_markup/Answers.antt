use Rattle.out_markup.proofs.Markups.{no_name, no_part}
use Rattle.out_markup.proofs.laws.no_name_makes_markup.Goals as goal

pub returns-clause-whole : goal.returns-clause-whole
returns-clause-whole c = no_name

pub returns-clause-part : goal.returns-clause-part
returns-clause-part c = no_part
