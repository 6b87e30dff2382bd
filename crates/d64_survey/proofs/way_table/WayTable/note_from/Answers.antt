use Rattle.std.proofs.Common.{ℕ, List, Some, sym, ap, ◌∙◌}
use Rattle.d64_survey.specs.Way.{block_at}
use Rattle.d64_survey.proofs.NotedWays.{one_noted}
use Rattle.d64_survey.proofs.way_table.WayTable.note_from.Goals as goal

pub returns-then-is_none : goal.returns-then-is_none
returns-then-is_none c =
    let pair : ℕ × ℕ = (c.args.track, c.args.sector) in
    let found = sym (c.block_in.ensures.block ∙ ap (λ (image : List (List ℕ)). block_at image pair) c.image.ensures) ∙ c.in-Some.is in
    one_noted c.args.survey.now _ c.args.self.now.ways pair c.index-then-is_none.result c.look_along-facts.result
    (found ∙ ap (λ (n : ℕ). Some n) (sym c.index-then-is_none.ensures.value)) c.look_along-facts.ensures c.requires
