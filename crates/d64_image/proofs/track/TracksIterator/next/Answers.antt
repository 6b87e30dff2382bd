use Rattle.std.proofs.Common.{rules, length, sym, ap, ◌∙◌}
use Rattle.d64_image.proofs.Ranges.{range_next}
use Rattle.d64_image.proofs.track.TracksIterator.next.Goals as goal

-- what was left is the next track and what is left now
pub returns-clause-steps : goal.returns-clause-steps
returns-clause-steps c = sym c.self.view_is ∙ range_next c.self.inside.next c.self.inside.end c.if-self.false

pub returns-clause-goes : goal.returns-clause-goes
returns-clause-goes c = let shorter = ap length (returns-clause-steps c) in search rules
