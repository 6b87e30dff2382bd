use Rattle.std.proofs.Common.{◌≡◌, refl, rules}
use Rattle.std.specs.Prelude.{string_bytes}
use Rattle.cmd_merge.specs.Reports.{with_read_file}
use Rattle.cmd_merge.proofs.MergeRuns.{files_left, no_files_left}
use Rattle.cmd_merge.proofs.merge_job.MergeJob.read_all.Goals as goal
use Rattle.program_surveys.specs.FileContents.{Contents, contents_by, IsReadAs}

pub loop-name-init : goal.loop-name-init
loop-name-init g c = record {
  read = λ new read rest. rest;
  files = refl;
}

pub loop-name-preserved : goal.loop-name-preserved
loop-name-preserved g c =
    let i = c.loop-name.invariant in
    let form = c.args.self.now.setup.now.form in
    let contents : Contents = contents_by (λ bytes. bytes.items) c.in_ok-contents.contents in
    let read : IsReadAs (string_bytes c.name-item.result) (g.H.Host.state c.loop-name.host) contents (g.H.Host.state c.read_contents.new.host) = search rules in
    let added : c.add.new.self ≡ with_read_file form (string_bytes c.name-item.result) contents c.loop-name.readings = search rules in
    record {
      read = λ new read_all rest. i.read new read_all
          (files_left form c.args.names.now c.loop-name.name-index c.name-item.result contents _ _ new _ _ read_all c.loop-name-test.true c.name-item.is read added rest);
      files = search rules;
    }

pub returns-clause-read : goal.returns-clause-read
returns-clause-read g c =
    c.loop-name.invariant.read _ _ (no_files_left c.args.self.now.setup.now.form c.args.names.now c.loop-name.name-index _ _ c.loop-name-test.false)
