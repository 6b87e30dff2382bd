use Rattle.std.proofs.Common.{◌∙◌}
use Rattle.d64_survey.proofs.SlotCells.{entry_there, no_entry_there}
use Rattle.d64_survey.proofs.survey.Survey.entry.Goals as goal

pub returns-in-Some : goal.returns-in-Some
returns-in-Some c =
    entry_there c.self.inside.image.now c.args.self.now c.as_slice.result.now c.place.result c.args.slot c.in-Some.block.now _ c.entry_in.result c.self.view_is
    (c.as_slice.ensures.value ∙ c.self.invariant.0) c.place.ensures c.in-Some.ensures.lookup.0 c.in-Some.ensures.lookup.1 c.entry_in.ensures

pub returns-in-None : goal.returns-in-None
returns-in-None c =
    no_entry_there c.self.inside.image.now c.args.self.now c.as_slice.result.now c.place.result c.args.slot c.self.view_is
    (c.as_slice.ensures.value ∙ c.self.invariant.0) c.place.ensures c.in-None.ensures.lookup.0
