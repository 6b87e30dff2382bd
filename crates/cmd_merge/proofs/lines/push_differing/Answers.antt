use Rattle.std.proofs.Common.{◌≡◌, ◌∙◌, ◌++◌, ℕ, List, ap, codes}
use Rattle.std.proofs.lemmas.Result.{on_ok_weaker}
use Rattle.d64_merge.specs.Merged.{outcome_count}
use Rattle.d64_merge.specs.declared.outcome.BlockOutcome.{BlockOutcome}
use Rattle.d64_merge.specs.declared.outcome.BlockOutcome.TheVariants.{Majority, First, Conflict}
use Rattle.cmd_merge.proofs.Joined.{three}
use Rattle.cmd_merge.specs.Lines.{count_if_any, differing_text}
use Rattle.cmd_merge.proofs.lines.push_differing.Goals as goal

pub returns : goal.returns
unfolding differing_text
returns c =
    let list = c.args.list.now in
    let old = c.args.out.now.items in
    let one = c.push_if_any.new.out.items in
    let second = c.push_if_any-2.new.out.items in
    let by : BlockOutcome → List ℕ → List ℕ = λ outcome word. count_if_any (outcome_count outcome list) word in
    let a : one ≡ old ++ by Majority (codes " by majority") = c.in_ok-push_if_any.ensures ∙ ap (λ (n : ℕ). old ++ count_if_any n (codes " by majority")) c.count_of.ensures.count in
    let b : second ≡ one ++ by First (codes " from the first good copy") =
    c.in_ok-push_if_any-2.ensures ∙ ap (λ (n : ℕ). one ++ count_if_any n (codes " from the first good copy")) c.count_of-2.ensures.count in
    on_ok_weaker c.push_if_any-3.result
    (λ ends. three old (by Majority (codes " by majority")) (by First (codes " from the first good copy")) (by Conflict (codes " in conflict")) one second c.push_if_any-3.new.out.items a b
    (ends ∙ ap (λ (n : ℕ). second ++ count_if_any n (codes " in conflict")) c.count_of-3.ensures.count)) c.push_if_any-3.ensures
