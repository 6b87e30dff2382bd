use Rattle.std.proofs.Common.{List, ℕ, ◌++◌, ap, ◌∙◌, arith}
use Rattle.out_messages.proofs.OwnerTexts.{owner_more, owners_end}
use Rattle.out_messages.proofs.owner_text.push_shown_owners.Goals as goal

pub loop-owner-preserved : goal.loop-owner-preserved
loop-owner-preserved c = record {
  place = omega arith;
  text =
      let words = c.separator.ensures in
      owner_more c.args.survey.now c.args.count c.loop-owner.place c.loop-owner.out.items c.extend_from_slice.new.self.items c.push_owner.new.out.items _
      c.args.owners.now c.loop-owner.owner-index c.owner-item.result c.loop-owner.invariant.place c.loop-owner-test.true c.owner-item.is
      (c.in_ok-extend_from_slice.ensures.items ∙ ap (λ (text : List ℕ). c.loop-owner.out.items ++ text) words) c.in_ok-push_owner.ensures c.loop-owner.invariant.text;
}

pub returns : goal.returns
returns c = owners_end c.args.survey.now c.args.count c.loop-owner.out.items _ c.args.owners.now c.loop-owner.owner-index (omega arith) c.loop-owner.invariant.text
