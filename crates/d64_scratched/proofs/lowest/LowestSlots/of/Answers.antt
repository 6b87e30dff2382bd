use Rattle.std.proofs.Common.{◌≡◌, ◌∙◌, ℕ, ◌≤◌, ◌*◌, true, false, List, length, sym, subst, rules}
use Rattle.d64_image.specs.declared.block.TheConstants.{BLOCKS}
use Rattle.d64_files.specs.Slot.{EntryView}
use Rattle.d64_scratched.specs.Claims.{Lowers}
use Rattle.d64_scratched.specs.Scratched.{is_scratched, scratched_way}
use Rattle.d64_scratched.proofs.Noted.{noting-none, next, next-slot, noting-scratched, noting-other, all_noted}
use Rattle.d64_scratched.proofs.lowest.LowestSlots.of.Goals as goal

pub loop-entry-init : goal.loop-entry-init
loop-entry-init c =
    let same : c.into_iter-entry-iterator.result ≡ c.slots-entry-items.result = c.into_iter-entry-iterator.ensures.into_iter_gives in
    noting-none c.args.survey.now c.empty-lowest.result c.into_iter-entry-iterator.result (same ∙ c.slots-entry-items.ensures.slots)
    (subst (λ (walk : List EntryView). length walk ≤ 8 * BLOCKS) (sym same) c.slots-entry-items.ensures.len) c.empty-lowest.ensures

pub note-requires : goal.note-requires
note-requires c =
    next-slot c.args.survey.now c.loop-entry.lowest c.in-Some.entry c.next.new.self
    (next c.args.survey.now c.loop-entry.lowest c.loop-entry.entry-iterator c.in-Some.entry c.next.new.self c.loop-entry.invariant c.in-Some.ensures.steps)

pub loop-entry-preserved-then-is_scratched : goal.loop-entry-preserved-then-is_scratched
loop-entry-preserved-then-is_scratched c =
    let scratched : is_scratched c.in-Some.entry.bytes ≡ true = search rules in
    noting-scratched c.args.survey.now c.loop-entry.lowest c.note.new.self c.in-Some.entry c.next.new.self
    (next c.args.survey.now c.loop-entry.lowest c.loop-entry.entry-iterator c.in-Some.entry c.next.new.self c.loop-entry.invariant c.in-Some.ensures.steps)
    scratched
    (subst (λ (image : List (List ℕ)). Lowers c.loop-entry.lowest (scratched_way image c.in-Some.entry.bytes).0 c.in-Some.entry.slot c.note.new.self) c.image.ensures c.note.ensures)

pub loop-entry-preserved : goal.loop-entry-preserved
loop-entry-preserved c =
    let other : is_scratched c.in-Some.entry.bytes ≡ false = search rules in
    noting-other c.args.survey.now c.loop-entry.lowest c.in-Some.entry c.next.new.self
    (next c.args.survey.now c.loop-entry.lowest c.loop-entry.entry-iterator c.in-Some.entry c.next.new.self c.loop-entry.invariant c.in-Some.ensures.steps)
    other

pub returns-clause-listed : goal.returns-clause-listed
returns-clause-listed c = all_noted c.args.survey.now c.loop-entry.lowest c.loop-entry.entry-iterator c.loop-entry.invariant c.in-None.ensures.steps.0

pub returns-clause-few : goal.returns-clause-few
returns-clause-few c = c.loop-entry.invariant.few
