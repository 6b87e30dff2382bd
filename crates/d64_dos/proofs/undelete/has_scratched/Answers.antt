use Rattle.std.proofs.Common.{◌≡◌, List, ap, ◌∙◌}
use Rattle.std.specs.List.{list_any}
use Rattle.d64_files.specs.Slot.{EntryView}
use Rattle.d64_files.specs.Directory.{slots, entries}
use Rattle.d64_files.proofs.SlotLists.{any-entry}
use Rattle.d64_dos.specs.Undelete.{is_scratched_as}
use Rattle.d64_dos.proofs.undelete.has_scratched.Goals as goal

pub loop-entry-init : goal.loop-entry-init
loop-entry-init c =
    let gives = c.into_iter-entry-iterator.ensures.into_iter_gives in
    let all = c.slots-entry-items.ensures.slots in
    let same : c.into_iter-entry-iterator.result ≡ entries c.args.directory.now (slots c.args.directory.now) = cc in
    ap (λ (walk : List EntryView). list_any (λ (entry : EntryView). is_scratched_as c.args.name.now entry.bytes) walk) same
    ∙ any-entry (is_scratched_as c.args.name.now) c.args.directory.now 0 (slots c.args.directory.now)
