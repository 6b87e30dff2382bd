use Rattle.std.proofs.Common.{ℕ, Bool, if◌then◌else◌, List, [], ◌∷◌, ◌++◌, Option, sym, ap, ap₂, ◌∙◌}
use Rattle.std.specs.List.{filter}
use Rattle.cmd_diff.specs.Changes.{has_other_code}
use Rattle.cmd_diff.proofs.Keeping.{kept_more}
use Rattle.cmd_diff.proofs.blocks.list_other_codes.Goals as goal

pub loop-block-preserved : goal.loop-block-preserved
loop-block-preserved c =
    let test : ℕ → Bool = has_other_code c.args.old.now.codes c.args.new.now.codes in
    let kept = c.loop-block.blocks.items in
    let block = c.in-Some.block in
    let rest = c.next.new.self in
    let reported = c.has_other_code-differs.ensures ∙ ap₂ (λ (old new : Option (List ℕ)). has_other_code old new block) c.codes.ensures c.codes-in-loop-block.ensures in
    ap (λ (bs : List ℕ). bs ++ filter test rest) (c.in_ok-keep_if.ensures ∙ ap (λ (k : Bool). kept ++ (if k then block ∷ [] else [])) reported)
    ∙ kept_more test kept block rest
    ∙ ap (λ (bs : List ℕ). kept ++ filter test bs) (sym c.in-Some.ensures.steps)
    ∙ c.loop-block.invariant
