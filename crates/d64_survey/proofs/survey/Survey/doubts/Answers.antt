use Rattle.std.proofs.Common.{ap, ◌∙◌}
use Rattle.d64_survey.specs.Doubts.{has_other_version, has_filler}
use Rattle.d64_survey.proofs.DoubtLists.{are_blank, all_doubts}
use Rattle.d64_survey.proofs.survey.Survey.doubts.Goals as goal

pub returns : goal.returns
returns c =
    let same = c.image-image.ensures in
    all_doubts c.args.self.now _ _ _ _ _ _ _ _ _ (record {
      version = c.has_other_version.ensures ∙ ap has_other_version same;
      blank = c.is_directory_blank.ensures ∙ ap are_blank same;
      strays = c.has_strays.ensures;
      filler = c.has_filler.ensures ∙ ap has_filler same;
    }) c.new-list.ensures c.doubt_if.ensures.list c.doubt_if-2.ensures.list c.doubt_if-3.ensures.list c.doubt_if-4.ensures.list
