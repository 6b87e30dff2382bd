use Rattle.std.proofs.Common.{List, ℕ, ◌++◌, ap, ◌∙◌, arith}
use Rattle.out_messages.proofs.FileTexts.{flaw_more, flaws_end}
use Rattle.out_messages.proofs.file_text.push_flaws.Goals as goal

pub loop-flaw-preserved : goal.loop-flaw-preserved
loop-flaw-preserved c = record {
  place = omega arith;
  text =
      let words = c.comma.ensures in
      flaw_more c.args.shown c.args.there c.loop-flaw.place c.loop-flaw.out.items c.extend_from_slice.new.self.items c.push_flaw.new.out.items _
      c.args.flaws.now c.loop-flaw.flaw-index _ c.loop-flaw.invariant.place c.loop-flaw-test.true
      (c.in_ok-extend_from_slice.ensures.items ∙ ap (λ (text : List ℕ). c.loop-flaw.out.items ++ text) words) c.in_ok-push_flaw.ensures c.loop-flaw.invariant.text;
}

pub returns : goal.returns
returns c = flaws_end c.args.shown c.args.there c.loop-flaw.out.items _ c.args.flaws.now c.loop-flaw.flaw-index (omega arith) c.loop-flaw.invariant.text
