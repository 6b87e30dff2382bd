use Rattle.std.proofs.Common.{◌*◌, ℕ, List, length, sym, ap, ◌∙◌}
use Rattle.d64_files.proofs.SlotLists.{length-slots_in}
use Rattle.d64_survey.specs.Owners.{directory_way}
use Rattle.cmd_diff.proofs.slots.slots_of.Goals as goal

pub returns : goal.returns
returns c =
    let image = c.args.survey.now in
    ap (λ (bs : List ℕ). 8 * length bs) c.directory.ensures.value ∙ sym (length-slots_in image (directory_way image).0)
