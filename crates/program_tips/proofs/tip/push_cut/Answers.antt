use Rattle.std.proofs.Common.{arith, rules, sym, ◌∙◌}
use Rattle.std.proofs.lemmas.Str.{IsUtf8-past_char}
use Rattle.program_tips.proofs.Cuts.{cut_here, cut_whole, next_cut}
use Rattle.program_tips.proofs.tip.push_cut.Goals as goal

pub returns-then-count-eq-SHOWN_CHARACTERS : goal.returns-then-count-eq-SHOWN_CHARACTERS
unfolding Rattle.program_tips.specs.Tip.cut
returns-then-count-eq-SHOWN_CHARACTERS c =
    let shown = cut_here _ _ _ _ _ _ c.loop-count.invariant.0 c.in-Some.ensures.steps.0.0 (sym c.in-Some.ensures.steps.1 ∙ c.if-count-eq-SHOWN_CHARACTERS.true) c.loop-count.invariant.2 in
    search rules

pub loop-count-preserved : goal.loop-count-preserved
loop-count-preserved c =
    let steps = c.in-Some.ensures.steps in (
      IsUtf8-past_char _ _ _ c.loop-count.invariant.0 steps.0.0,
      omega (arith, steps.1, steps.2, c.loop-count.invariant.1, c.if-count-eq-SHOWN_CHARACTERS.false),
      rw (c.in_ok-push_typed.ensures, steps.2)
          (next_cut _ _ _ _ _ _ c.loop-count.invariant.0 steps.0.0 c.loop-count.invariant.1 (λ full. c.if-count-eq-SHOWN_CHARACTERS.false (steps.1 ∙ full)) c.loop-count.invariant.2),
    )

pub returns : goal.returns
unfolding Rattle.program_tips.specs.Tip.cut
returns c = cut_whole _ _ _ _ (search rules) c.loop-count.invariant.2
