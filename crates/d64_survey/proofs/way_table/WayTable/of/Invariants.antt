use Rattle.std.specs.Prelude.{option_map}
use Rattle.d64_survey.specs.WayFacts.{RecordsWays}
use Rattle.d64_survey.proofs.way_table.WayTable.of.Given as goal

abbrev pub invariant-loop-entry : goal.invariant-loop-entry
invariant-loop-entry l = RecordsWays l.survey (option_map (λ codes. codes.now) l.codes) l.ways.ways
