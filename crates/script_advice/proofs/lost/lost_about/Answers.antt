use Rattle.std.proofs.Common.{◌++◌, ◌∙◌, ap, codes}
use Rattle.script_advice.specs.Lost.{loss_reason_text, lost_about}
use Rattle.script_advice.proofs.lost.lost_about.Goals as goal

-- the parts of the line, one after the other
pub returns : goal.returns
unfolding lost_about
returns c =
    let begun = c.in_ok-extend_from_slice.ensures.items ∙ ap (λ line. line ++ c.args.start.now) c.new-line.ensures.items in
    let named = c.in_ok-extend_from_slice-3.ensures.items
    ∙ ap (λ line. line ++ c.args.name.now) (c.in_ok-extend_from_slice-2.ensures.items ∙ ap (λ line. line ++ codes "what was deleted as \"") begun) in
    c.in_ok-extend_from_slice-5.ensures.items
    ∙ ap (λ line. line ++ codes "\n") (c.in_ok-push_loss.ensures
    ∙ ap (λ line. line ++ loss_reason_text c.args.loss) (c.in_ok-extend_from_slice-4.ensures.items
    ∙ ap (λ line. line ++ codes "\" is lost") named))
