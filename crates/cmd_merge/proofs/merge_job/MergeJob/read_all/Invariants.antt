use Rattle.std.proofs.Common.{◌≡◌, map, drop}
use Rattle.std.specs.Prelude.{string_bytes}
use Rattle.host_storage.specs.Files.{HostState}
use Rattle.cmd_merge.specs.Reports.{ReadingsView}
use Rattle.cmd_merge.specs.Merges.{ReadsFiles}
use Rattle.cmd_merge.proofs.merge_job.MergeJob.read_all.Given as goal

-- reading the files that are left ends as reading all files does
abbrev pub invariant-loop-name : goal.invariant-loop-name
invariant-loop-name g l = record {
  read : (new : HostState) (read : ReadingsView) → ReadsFiles l.self.setup.now.form (map string_bytes (drop l.name-index l.names)) (g.H.Host.state l.host) l.readings new read
      → ReadsFiles l.self.setup.now.form (map string_bytes l.names) (g.H.Host.state l.initial.host) l.initial.readings new read;
  files : (g.H.Host.state l.host).files ≡ (g.H.Host.state l.initial.host).files;
}
