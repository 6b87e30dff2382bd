use Rattle.std.proofs.Common.{ap, string_bytes}
use Rattle.std.proofs.lemmas.Map.Text.{btree_map_updates_text}
use Rattle.host_memory.proofs.FilesOfEntries.{set_file}
use Rattle.host_memory.proofs.memory_host.MemoryHost.put.Goals as goal

-- the key holds the name and the value the bytes, so the insertion sets that one file
pub returns-clause-accepted : goal.returns-clause-accepted
returns-clause-accepted c =
    let updates = btree_map_updates_text (string_bytes c.in_ok-key.key) c.self.inside.entries c.insert.new.self _ c.in_ok-insert.ensures.updates in
    let files = set_file c.self.inside.entries c.insert.new.self (string_bytes c.in_ok-key.key) c.args.name.now c.in_ok-value.value c.args.bytes.now updates c.in_ok-key.ensures.ok c.in_ok-value.ensures.items in
    rw (← c.self.view_is) (ap (λ all. record { files = all; countdown = c.self.inside.countdown; failures = c.self.inside.failures }) files)
