use Rattle.std.proofs.Common.{ℕ, List, sym, ap, ◌∙◌}
use Rattle.d64_survey.specs.Way.{block_at}
use Rattle.d64_survey.specs.WayFacts.{noted_way}
use Rattle.d64_survey.proofs.NotedWays.{noted_is}
use Rattle.d64_survey.proofs.way_table.WayTable.facts.Goals as goal

pub returns-in-Some : goal.returns-in-Some
returns-in-Some c =
    let pair : ℕ × ℕ = (c.args.track, c.args.sector) in
    noted_is c.args.survey.now _ c.args.self.now.ways pair c.in-Some.facts c.requires
    (sym c.in-Some.is ∙ c.noted.ensures ∙ ap (λ (image : List (List ℕ)). noted_way c.args.self.now.ways (block_at image pair)) c.image.ensures)
