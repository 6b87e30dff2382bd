use Rattle.std.proofs.Common.{◌≡◌}
use Rattle.script_advice.specs.Found.{listed_slots}
use Rattle.script_advice.specs.Lost.{first_loss}
use Rattle.script_advice.proofs.lost.first_loss.Given as goal

-- nothing is wrong with the entries before
abbrev pub invariant-loop-entry : goal.invariant-loop-entry
invariant-loop-entry l = first_loss l.survey l.name l.entry-iterator ≡ first_loss l.survey l.name (listed_slots l.survey)
