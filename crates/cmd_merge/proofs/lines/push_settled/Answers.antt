use Rattle.std.proofs.Common.{◌≡◌, ◌∙◌, ◌++◌, ℕ, List, ap, codes}
use Rattle.std.proofs.lemmas.Result.{on_ok_weaker}
use Rattle.std.specs.Prelude.{decimal}
use Rattle.d64_merge.specs.Merged.{outcome_count}
use Rattle.d64_merge.specs.declared.outcome.BlockOutcome.{BlockOutcome}
use Rattle.d64_merge.specs.declared.outcome.BlockOutcome.TheVariants.{Same, Taken, Lost}
use Rattle.cmd_merge.proofs.Joined.{four}
use Rattle.cmd_merge.specs.Lines.{count_if_any, settled_text}
use Rattle.cmd_merge.proofs.lines.push_settled.Goals as goal

pub returns : goal.returns
unfolding settled_text
returns c =
    let list = c.args.list.now in
    let old = c.args.out.now.items in
    let one = c.push_number.new.out.items in
    let second = c.extend_from_slice.new.self.items in
    let third = c.push_if_any.new.out.items in
    let by : BlockOutcome → List ℕ → List ℕ = λ outcome word. count_if_any (outcome_count outcome list) word in
    let a : one ≡ old ++ decimal (outcome_count Same list) = c.in_ok-push_number.ensures ∙ ap (λ (n : ℕ). old ++ decimal n) c.count_of.ensures.count in
    let b : second ≡ one ++ codes " the same in all dumps" = c.in_ok-extend_from_slice.ensures.items in
    let d : third ≡ second ++ by Taken (codes " taken") = c.in_ok-push_if_any.ensures ∙ ap (λ (n : ℕ). second ++ count_if_any n (codes " taken")) c.count_of-2.ensures.count in
    on_ok_weaker c.push_if_any-2.result
    (λ ends. four old (decimal (outcome_count Same list)) (codes " the same in all dumps") (by Taken (codes " taken")) (by Lost (codes " lost")) one second third c.push_if_any-2.new.out.items a b d
    (ends ∙ ap (λ (n : ℕ). third ++ count_if_any n (codes " lost")) c.count_of-3.ensures.count)) c.push_if_any-2.ensures
