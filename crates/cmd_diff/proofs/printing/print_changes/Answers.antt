use Rattle.std.proofs.Common.{◌≡◌, ◌∙◌, List, ℕ, ◌++◌, ap, rules}
use Rattle.std.proofs.lemmas.Result.{IfOk-weaker}
use Rattle.cmd_diff.specs.Changes.{DumpChange, BlocksChanged, CodesChanged, disk_change, slot_changes, slot_count, where_any, differing_blocks, changed_codes, changes}
use Rattle.cmd_diff.specs.Differences.{printed_changes}
use Rattle.cmd_diff.proofs.Printed.{bytes_printed, codes_printed, then_printed}
use Rattle.cmd_diff.proofs.printing.print_changes.Goals as goal

pub returns : goal.returns
unfolding changes
returns c =
    let form = c.args.form in
    let old = c.args.old.now in
    let new = c.args.new.now in
    let slots = slot_changes old new (slot_count old new) in
    let blocks : List DumpChange = where_any BlocksChanged (differing_blocks old.image new.image) in
    let read : List DumpChange = where_any CodesChanged (changed_codes old new) in
    let listed : c.as_slice.result.now ≡ differing_blocks old.image new.image = search rules in
    let listed_codes : c.as_slice-2.result.now ≡ changed_codes old new = search rules in
    let files = c.in_ok-files.files.items in
    let known_blocks : c.in_ok-blocks.blocks.items ≡ files ++ printed_changes form blocks =
    c.in_ok-blocks.ensures
    ∙ ap (λ (reported : List ℕ). files ++ reported) (bytes_printed form c.as_slice.result.now ∙ ap (λ (bs : List ℕ). printed_changes form (where_any BlocksChanged bs)) listed) in
    let known_codes = codes_printed form c.as_slice-2.result.now ∙ ap (λ (bs : List ℕ). printed_changes form (where_any CodesChanged bs)) listed_codes in
    IfOk-weaker c.print_blocks-2.result _ (λ text. text.items ≡ c.args.out.items ++ printed_changes form (changes old new))
    (λ text reported.
    then_printed form _ _ _ (disk_change old new) (slots ++ (blocks ++ read)) c.in_ok-disk.ensures
    (then_printed form _ _ _ slots (blocks ++ read) c.in_ok-files.ensures
    (then_printed form _ _ _ blocks read known_blocks (reported ∙ ap (λ (list : List ℕ). c.in_ok-blocks.blocks.items ++ list) known_codes))))
    c.print_blocks-2.ensures
