use Rattle.std.proofs.Common.{◌≡◌, List, ap, ◌∙◌}
use Rattle.std.specs.Prelude.{find, option_map}
use Rattle.d64_files.specs.Slot.{EntryView}
use Rattle.d64_files.specs.Directory.{slots, entries, has_name}
use Rattle.d64_files.proofs.SlotLists.{found-entry}
use Rattle.d64_dos.proofs.rename.slot_of_name.Goals as goal

pub loop-entry-init : goal.loop-entry-init
loop-entry-init c =
    let gives = c.into_iter-entry-iterator.ensures.into_iter_gives in
    let all = c.slots-entry-items.ensures.slots in
    let same : c.into_iter-entry-iterator.result ≡ entries c.args.directory.now (slots c.args.directory.now) = cc in
    ap (λ (walk : List EntryView). option_map (λ (entry : EntryView). entry.slot) (find (λ (entry : EntryView). has_name c.args.name.now entry.bytes) walk)) same
    ∙ found-entry (has_name c.args.name.now) c.args.directory.now (slots c.args.directory.now)
