use Rattle.std.proofs.Common.{rules}
use Rattle.std.proofs.lemmas.List.{take_min}
use Rattle.out_messages.proofs.first_characters.shown_start.Goals as goal

pub returns : goal.returns
returns c = search (rules, take_min)
