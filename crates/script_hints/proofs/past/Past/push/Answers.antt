use Rattle.script_hints.proofs.past.Past.push.Goals.{in-Ok, in-Err}
use Rattle.script_hints.proofs.past.Past.push.Goals as goal

-- the line is appended, or there was no memory for it
pub returns-clause-pushed : goal.returns-clause-pushed
returns-clause-pushed c =
    elim c.match-push.branch [
      | in-Ok w ↦ rw w.result-is (c.in_ok-shown.shown, w.in-Ok.ensures.items, c.in_ok-shown.ensures)
      | in-Err w ↦ rw w.result-is w.in-Err.ensures.items
    ]
