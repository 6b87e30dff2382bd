use Rattle.std.proofs.Common.{◌≡◌, List, ap}
use Rattle.std.specs.Prelude.{find}
use Rattle.d64_files.specs.Slot.{EntryView}
use Rattle.d64_files.specs.Directory.{slots, entries}
use Rattle.d64_dos.specs.Restoring.{is_left_by}
use Rattle.d64_dos.proofs.undelete.first_left.Goals as goal

pub loop-entry-init : goal.loop-entry-init
loop-entry-init c =
    let gives = c.into_iter-entry-iterator.ensures.into_iter_gives in
    let all = c.slots-entry-items.ensures.slots in
    let same : c.into_iter-entry-iterator.result ≡ entries c.args.directory.now (slots c.args.directory.now) = cc in
    ap (λ (walk : List EntryView). find (λ (entry : EntryView). is_left_by c.args.scratched.now c.args.name.now (entry.slot, entry.bytes)) walk) same
