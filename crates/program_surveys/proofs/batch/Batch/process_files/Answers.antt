use Rattle.std.proofs.Common.{rules, ap, string_bytes}
use Rattle.program_surveys.specs.Names.{File}
use Rattle.program_surveys.proofs.RunSteps.{Steps-none, Steps-next, Steps-all, Runs-stopped}
use Rattle.program_surveys.proofs.batch.Batch.process_files.Goals as goal

pub loop-name-init : goal.loop-name-init
loop-name-init g c = record {
  same = search rules;
  options = search rules;
  delivered = search rules;
  silent = search rules;
  processed = Steps-none _ _;
}

pub loop-name-preserved : goal.loop-name-preserved
loop-name-preserved g c =
    let i = c.loop-name.invariant in
    record {
      same = search rules;
      options = search rules;
      delivered = search rules;
      silent = search rules;
      processed = Steps-next _ _ (λ name. File (string_bytes name)) c.args.names.now c.loop-name.name-index c.name-item.result _ _ _ _ c.loop-name-test.true c.name-item.is
          i.processed (ap g.C.FileTask.effects i.options) (ap File c.as_str.ensures.value) c.in_ok-process.ensures.processed;
    }

pub returns-in_err-process-clause-processed : goal.returns-in_err-process-clause-processed
returns-in_err-process-clause-processed g c =
    let i = c.loop-name.invariant in
    Runs-stopped _ _ (λ name. File (string_bytes name)) c.args.names.now c.loop-name.name-index c.name-item.result _ c.in_err-process.field-0.0 _ _ _ _ c.loop-name-test.true
    c.name-item.is i.processed (ap g.C.FileTask.effects i.options) (ap File c.as_str.ensures.value) c.in_err-process.ensures.processed (search rules)

pub returns-clause-processed : goal.returns-clause-processed
returns-clause-processed g c =
    Steps-all _ (λ name. File (string_bytes name)) c.args.names.now c.loop-name.name-index _ _ (search rules) c.loop-name.invariant.processed
