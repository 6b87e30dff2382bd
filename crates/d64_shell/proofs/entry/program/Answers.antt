use Rattle.std.proofs.Common.{rules, false}
use Rattle.host_storage.specs.Input.{reading_of}
use Rattle.d64_shell.proofs.ProgramRuns.{Ended-streams, outside_is}
use Rattle.d64_shell.proofs.entry.program.Goals as goal

-- the wrapped streams know how `reader` was read, and whether writing to `writer` or to `faults`
-- failed
pub returns-clause-ended : goal.returns-clause-ended
returns-clause-ended g c = (
  reading_of c.run.new.console.input.reads c.run.new.console.input.came c.run.new.console.input.has_failed,
  c.run.new.console.outputs.output.has_failed,
  c.run.new.console.outputs.faults.has_failed,
  Ended-streams _ _ _ _ _ _ _ _ _ _ _ _ _ _
      (outside_is _ (g.R.Read.remaining c.args.reader.now) _ (g.W.Write.contents c.args.writer.now) _ (g.F.Write.contents c.args.faults.now) _ (reading_of 0 0 false) _ false _ false (g.H.Host.state c.args.host.now)
      (search rules) (search rules) (search rules) (search rules) (search rules) (search rules))
      (search rules) (search rules) (search rules) c.run.ensures.ended,
)
