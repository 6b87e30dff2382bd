use Rattle.std.proofs.Common.{◌≡◌, ◌∙◌, List, [], ◌∷◌, ◌++◌, rules, sym, ap}
use Rattle.d64_files.specs.Slot.{EntryView}
use Rattle.cmd_catalogue.specs.Files.{linked_rows}
use Rattle.cmd_catalogue.specs.Namings.{naming_of}
use Rattle.cmd_catalogue.proofs.LinkedRows.{no_linked_row, no_more, unused_one, used_one}
use Rattle.cmd_catalogue.proofs.files.push_linked_rows.Goals as goal

pub loop-entry-init : goal.loop-entry-init
loop-entry-init c =
    no_linked_row _ c.args.all.now c.survey.result.now _ _ c.args.out.now.items c.survey.ensures (c.into_iter-entry-iterator.ensures.into_iter_gives ∙ c.slots-entry-items.ensures.slots) c.begin.ensures

pub loop-entry-preserved-in-Continue-1 : goal.loop-entry-preserved-in-Continue-1
loop-entry-preserved-in-Continue-1 c =
    let step : c.loop-entry.entry-iterator ≡ c.in-Some.entry ∷ c.next.new.self = search rules in
    let to_come = λ (w : List EntryView). c.loop-entry.out.items ++ linked_rows c.args.folder.now c.args.all.now (naming_of c.loop-entry.files) w in
    used_one c.args.folder.now c.args.all.now (naming_of c.loop-entry.files) (naming_of c.push_linked_row.new.files) c.in-Some.entry c.next.new.self
    c.loop-entry.out.items c.push_linked_row.new.out.items _ (sym c.used.ensures ∙ c.if-used.true)
    c.in_ok-push_linked_row.ensures.naming c.in_ok-push_linked_row.ensures.row (ap to_come (sym step) ∙ c.loop-entry.invariant)

pub loop-entry-preserved : goal.loop-entry-preserved
loop-entry-preserved c =
    let step : c.loop-entry.entry-iterator ≡ c.in-Some.entry ∷ c.next.new.self = search rules in
    let to_come = λ (w : List EntryView). c.loop-entry.out.items ++ linked_rows c.args.folder.now c.args.all.now (naming_of c.loop-entry.files) w in
    unused_one c.args.folder.now c.args.all.now (naming_of c.loop-entry.files) c.in-Some.entry c.next.new.self c.loop-entry.out.items _
    (sym c.used.ensures ∙ c.if-used.false) (ap to_come (sym step) ∙ c.loop-entry.invariant)

pub returns : goal.returns
returns c =
    let done : c.loop-entry.entry-iterator ≡ [] = search rules in
    let to_come = λ (w : List EntryView). c.loop-entry.out.items ++ linked_rows c.args.folder.now c.args.all.now (naming_of c.loop-entry.files) w in
    no_more c.args.folder.now c.args.all.now (naming_of c.loop-entry.files) c.loop-entry.out.items _ (ap to_come (sym done) ∙ c.loop-entry.invariant)
