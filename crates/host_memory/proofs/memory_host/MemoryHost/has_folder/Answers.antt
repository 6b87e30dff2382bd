use Rattle.std.proofs.Common.{◌≡◌, ◌++◌, ◌∷◌, [], map, ap, sym, ◌∙◌, rules}
use Rattle.std.specs.Map.{lookup}
use Rattle.std.specs.Map.Iter.{deref_pair}
use Rattle.std.proofs.lemmas.List.{map-append}
use Rattle.std.proofs.lemmas.Map.Iter.{rest_more, rest_so_far, iter_end}
use Rattle.host_storage.specs.Folders.{folder_name}
use Rattle.host_memory.proofs.FilesOfEntries.{is_named, unnamed, lookup-push, has_file, lacks_file}
use Rattle.host_memory.proofs.memory_host.MemoryHost.has_folder.Goals as goal

-- the name that is found is among the entries
pub returns-then-is_folder_name : goal.returns-then-is_folder_name
returns-then-is_folder_name c =
    let all : c.self.inside.entries.entries ≡ map deref_pair c.loop-name.yielded ++ deref_pair (c.in-Some.name, c.in-Some.field-0-1) ∷ c.next.new.self =
    sym (search rules) ∙ rest_so_far deref_pair c.loop-name.yielded c.into_iter-name-iterator.result c.loop-name.name-iterator c.loop-name.yielded_by
    ∙ ap (λ rest. map deref_pair c.loop-name.yielded ++ rest) (rest_more deref_pair c.loop-name.name-iterator c.next.new.self c.next.result (c.in-Some.name, c.in-Some.field-0-1) c.in-Some.is c.next.ensures.steps) in
    has_file c.self.inside.entries (folder_name c.args.path.now) c.args.self.now (map deref_pair c.loop-name.yielded) c.next.new.self (deref_pair (c.in-Some.name, c.in-Some.field-0-1)) all
    (ap (λ host. host.files) c.self.view_is) (sym c.as_str.ensures.value ∙ c.is_folder_name.ensures.0 c.if-is_folder_name.true)

-- one more name is another one
pub loop-name-preserved : goal.loop-name-preserved
loop-name-preserved c =
    let other = unnamed (folder_name c.args.path.now) c.in-Some.name.now c.is_folder_name.result c.if-is_folder_name.false (λ is. c.is_folder_name.ensures.1 (c.as_str.ensures.value ∙ is)) in
    ap (lookup (is_named (folder_name c.args.path.now))) (map-append deref_pair c.loop-name.yielded ((c.in-Some.name, c.in-Some.field-0-1) ∷ []))
    ∙ lookup-push (is_named (folder_name c.args.path.now)) (map deref_pair c.loop-name.yielded) (deref_pair (c.in-Some.name, c.in-Some.field-0-1)) c.loop-name.invariant other

-- all names are other ones
pub returns : goal.returns
returns c =
    let all : map deref_pair c.loop-name.yielded ≡ c.self.inside.entries.entries = search (rules, iter_end) in
    lacks_file c.self.inside.entries (folder_name c.args.path.now) c.args.self.now (ap (lookup (is_named (folder_name c.args.path.now))) (sym all) ∙ c.loop-name.invariant) (ap (λ host. host.files) c.self.view_is)
