use Rattle.script_text.specs.RawLines.{lines_of}
use Rattle.cbm_text.proofs.FaultyTexts.{FaultySoFar}
use Rattle.cbm_text.proofs.faulty_text.faulty_lines.Given as goal

abbrev pub invariant-loop-raw : goal.invariant-loop-raw
invariant-loop-raw l = FaultySoFar l.start l.at l.place l.most l.count l.text l.lines.items (lines_of l.raw-iterator.0.now)
