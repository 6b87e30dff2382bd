use Rattle.std.proofs.Common.{List, ℕ, ◌++◌, ap, sym, ◌∙◌}
use Rattle.std.specs.Prelude.{codes}
use Rattle.out_messages.specs.OwnerText.{block_owners}
use Rattle.out_messages.proofs.Joins.{join2}
use Rattle.out_messages.proofs.FaultTexts.{belonging_text-owned}
use Rattle.out_messages.proofs.fault_text.push_belonging.Goals as goal

pub returns : goal.returns
returns c =
    let counted = c.count.ensures ∙ c.owners.ensures.count in
    join2 c.args.out.now.items (codes ", belongs to ") (block_owners c.args.survey.now c.args.block)
    c.extend_from_slice-2.new.self.items c.push_owners.new.out.items c.in_ok-extend_from_slice.ensures.items c.in_ok-push_owners.ensures
    ∙ ap (λ (text : List ℕ). c.args.out.now.items ++ text) (sym (belonging_text-owned c.args.survey.now c.args.block (λ none. c.if-count-eq0.false (counted ∙ none))))
