use Rattle.std.proofs.Common.{◌≡◌, ap, ◌∙◌, rules, option_copied}
use Rattle.std.specs.Prelude.{option_map}
use Rattle.host_memory.proofs.FilesOfEntries.{found_file}
use Rattle.host_memory.proofs.memory_host.MemoryHost.file.Goals as goal

-- the entry that is found holds the file's bytes
pub returns : goal.returns
returns c =
    let lent : option_copied c.map.result ≡ option_map (λ value. value.items) (option_copied c.get.result) = search rules in
    lent ∙ found_file c.self.inside.entries c.args.name.now (option_copied c.get.result) c.args.self.now c.get.ensures.value (ap (λ host. host.files) c.self.view_is)
