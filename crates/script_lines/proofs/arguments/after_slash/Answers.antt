use Rattle.std.proofs.Common.{◌≡◌, ◌==◌, of_calls, List, subst}
use Rattle.std.specs.List.{after_last}
use Rattle.std.proofs.lemmas.List.Sorted.{answers_always}
use Rattle.script_lines.specs.Arguments.{after_slash}
use Rattle.script_lines.proofs.LastParts.{is_after_last}
use Rattle.script_lines.proofs.arguments.after_slash.Goals as goal

pub returns-in-Some : goal.returns-in-Some
unfolding after_slash
returns-in-Some c =
    let steps = c.in-Some.ensures.steps in
    let after = (steps.2 (λ byte. byte == 47) (answers_always _ _ _ (λ f a r g called. search of_calls))).1 in
    subst (λ (argument : List _). c.in-Some.part.now ≡ after_last (λ byte. byte == 47) argument) c.rsplit.ensures.rest
    (is_after_last (λ byte. byte == 47) _ _ _ _ steps.1 after)
