use Rattle.std.proofs.Common.{ℕ, Some, sym, ap, ◌∙◌}
use Rattle.d64_inventory.proofs.KeptContents.{kept_at, one_kept, no_content}
use Rattle.d64_inventory.proofs.content_table.ContentTable.content_from.Goals as goal

pub returns-in-Some-contents-clause-content : goal.returns-in-Some-contents-clause-content
returns-in-Some-contents-clause-content c =
    let pair : ℕ × ℕ = (c.args.track, c.args.sector) in
    kept_at c.args.image.now c.args.self.now.contents pair c.in-Some.block c.index.result c.in-Some-contents.content c.requires (sym c.block_in.ensures.block ∙ c.in-Some.is) c.index.ensures.value
    c.in-Some-contents.is

pub returns-in-None-contents-clause-kept : goal.returns-in-None-contents-clause-kept
returns-in-None-contents-clause-kept c =
    let pair : ℕ × ℕ = (c.args.track, c.args.sector) in
    one_kept c.args.image.now c.args.self.now.contents pair c.index-in-None-contents.result c.digest_from-content.result
    (sym c.block_in.ensures.block ∙ c.in-Some.is ∙ ap (λ (n : ℕ). Some n) (sym c.index-in-None-contents.ensures.value)) c.digest_from-content.ensures c.requires

pub returns-in-None-clause-content : goal.returns-in-None-clause-content
returns-in-None-clause-content c = no_content c.args.image.now (c.args.track, c.args.sector) (sym c.block_in.ensures.block ∙ c.in-None.is)
