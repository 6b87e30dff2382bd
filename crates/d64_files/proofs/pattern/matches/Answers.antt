use Rattle.std.proofs.Common.{arith}
use Rattle.std.proofs.lemmas.Bool.Decides.{Decides-at}
use Rattle.std.proofs.lemmas.Grind.{common_steps}
use Rattle.d64_files.proofs.Matching.{matches_decides}
use Rattle.d64_files.proofs.pattern.matches.Goals as goal

pub returns-then-expected-eq42-clause-cases : goal.returns-then-expected-eq42-clause-cases
returns-then-expected-eq42-clause-cases c = Decides-at _ _ (grind (arith, common_steps)) (matches_decides c.args.pattern.now c.args.name.now)

pub returns-in_default-clause-cases : goal.returns-in_default-clause-cases
returns-in_default-clause-cases c = Decides-at _ _ (grind (arith, common_steps)) (matches_decides c.args.pattern.now c.args.name.now)

pub returns-then-expected-first-clause-cases : goal.returns-then-expected-first-clause-cases
returns-then-expected-first-clause-cases c = Decides-at _ _ (grind (arith, common_steps)) (matches_decides c.args.pattern.now c.args.name.now)

pub returns-clause-cases : goal.returns-clause-cases
returns-clause-cases c = Decides-at _ _ (grind (arith, common_steps)) (matches_decides c.args.pattern.now c.args.name.now)
