use Rattle.std.proofs.Common.{◌≡◌, map, string_bytes, ap, ◌∙◌, rules}
use Rattle.std.specs.BTreeMap.{IsOrdered}
use Rattle.std.specs.FinMap.{empty}
use Rattle.std.specs.List.{fold}
use Rattle.std.specs.Map.Iter.{deref_pair}
use Rattle.std.specs.String.{string_cmp}
use Rattle.std.proofs.lemmas.Map.Iter.{iter_end}
use Rattle.std.proofs.lemmas.Map.Text.{btree_map_updates_text}
use Rattle.host_storage.specs.Folders.{folder_name, with_moved}
use Rattle.host_memory.proofs.Moves.{as_file, moved_in, moved_all, moved_step, moved_name-same}
use Rattle.host_memory.proofs.memory_host.MemoryHost.moved.Goals as goal

-- one more entry has its new name, whether or not another one had that name
pub loop-name-preserved-in_ok-insert : goal.loop-name-preserved-in_ok-insert
loop-name-preserved-in_ok-insert c =
    let from = c.as_str-in-loop-name.ensures.value ∙ c.in_ok-old.ensures in
    let to = c.as_str-in-loop-name-2.ensures.value ∙ c.in_ok-new.ensures in
    let name = c.in_ok-key.ensures ∙ moved_name-same _ _ _ (folder_name c.args.from.now) (folder_name c.args.to.now) (string_bytes c.in-Some.name.now) from to c.as_str.ensures.value in
    let updates = btree_map_updates_text (string_bytes c.in_ok-key.key) c.loop-name.entries c.insert.new.self _ c.in_ok-insert.ensures.updates in
    moved_step c.args.from.now c.args.to.now c.loop-name.entries c.insert.new.self c.loop-name.yielded (c.in-Some.name, c.in-Some.bytes) (string_bytes c.in_ok-key.key) c.in_ok-value.value updates name (c.in_ok-value.ensures.items ∙ c.as_slice.ensures.value) c.loop-name.invariant

pub loop-name-preserved : goal.loop-name-preserved
loop-name-preserved c =
    let from = c.as_str-in-loop-name.ensures.value ∙ c.in_ok-old.ensures in
    let to = c.as_str-in-loop-name-2.ensures.value ∙ c.in_ok-new.ensures in
    let name = c.in_ok-key.ensures ∙ moved_name-same _ _ _ (folder_name c.args.from.now) (folder_name c.args.to.now) (string_bytes c.in-Some.name.now) from to c.as_str.ensures.value in
    let updates = btree_map_updates_text (string_bytes c.in_ok-key.key) c.loop-name.entries c.insert.new.self _ c.in_ok-insert.ensures.updates in
    moved_step c.args.from.now c.args.to.now c.loop-name.entries c.insert.new.self c.loop-name.yielded (c.in-Some.name, c.in-Some.bytes) (string_bytes c.in_ok-key.key) c.in_ok-value.value updates name (c.in_ok-value.ensures.items ∙ c.as_slice.ensures.value) c.loop-name.invariant

-- all entries have their new names, and they are the host's files
pub returns : goal.returns
returns c =
    let all : map deref_pair c.loop-name.yielded ≡ c.self.inside.entries.entries = search (rules, iter_end) in
    let ordered : IsOrdered string_cmp c.self.inside.entries = search rules in
    c.loop-name.invariant ∙ ap (λ entries. fold (moved_in c.args.from.now c.args.to.now) empty (map as_file entries)) all
    ∙ moved_all c.self.inside.entries c.args.from.now c.args.to.now ordered
    ∙ ap (λ host. with_moved c.args.from.now c.args.to.now host.files) c.self.view_is
