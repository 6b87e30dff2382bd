-- All of the line is its text if the script ends here.
use Rattle.std.proofs.Common.{ap, arith, length}
use Rattle.script_text.proofs.OpenLines.{Says-last}
use Rattle.script_text.proofs.held_line.HeldLine.is_empty.Goals as goal

pub returns-then-is_empty-clause-text : goal.returns-then-is_empty-clause-text
returns-then-is_empty-clause-text c before holds is_open =
    Says-last c.args.self.now before (omega (arith, c.as_slice.ensures.fits, ap length c.as_slice.ensures.value)) holds is_open

pub returns-else-is_empty-clause-text : goal.returns-else-is_empty-clause-text
returns-else-is_empty-clause-text c before holds is_open =
    Says-last c.args.self.now before (omega (arith, c.as_slice.ensures.fits, ap length c.as_slice.ensures.value)) holds is_open
