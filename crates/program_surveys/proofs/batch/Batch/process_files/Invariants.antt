use Rattle.std.proofs.Common.{◌≡◌, map, take, string_bytes}
use Rattle.program_surveys.specs.Names.{File}
use Rattle.program_surveys.specs.FileOutcomes.{KeepsQuiet}
use Rattle.program_surveys.specs.declared.report.Verdict.TheVariants.{Clean}
use Rattle.program_surveys.specs.Runs.{Steps, run_state_at}
use Rattle.program_console.specs.Console.{SameWriters, StaysDelivered}
use Rattle.program_surveys.proofs.batch.Batch.process_files.Given as goal

-- the files before this one are processed
abbrev pub invariant-loop-name : goal.invariant-loop-name
invariant-loop-name g l = record {
  same : SameWriters l.initial.outputs l.outputs;
  options : g.C.FileTask.options l.task ≡ g.C.FileTask.options l.initial.task;
  delivered : StaysDelivered l.initial.outputs.output l.outputs.output;
  silent : KeepsQuiet (g.C.FileTask.effects (g.C.FileTask.options l.initial.task)) → l.self.worst ≡ Clean → (l.initial.self.worst ≡ Clean) × (l.outputs.faults ≡ l.initial.outputs.faults);
  processed : Steps (g.C.FileTask.effects (g.C.FileTask.options l.initial.task)) (map (λ name. File (string_bytes name)) (take l.name-index l.names))
      (run_state_at g.W.Write.contents g.F.Write.contents l.initial.outputs (g.H.Host.state l.initial.host) l.initial.self.worst)
      (run_state_at g.W.Write.contents g.F.Write.contents l.outputs (g.H.Host.state l.host) l.self.worst);
}
