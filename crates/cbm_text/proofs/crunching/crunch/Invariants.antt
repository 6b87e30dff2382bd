use Rattle.script_text.specs.RawLines.{lines_of}
use Rattle.cbm_text.proofs.TextPrograms.{ProgramSoFar}
use Rattle.cbm_text.proofs.crunching.crunch.Given as goal

abbrev pub invariant-loop-raw : goal.invariant-loop-raw
invariant-loop-raw l = ProgramSoFar l.start l.at l.place l.text l.file.items (lines_of l.raw-iterator.0.now)
