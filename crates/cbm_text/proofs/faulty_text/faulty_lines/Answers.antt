use Rattle.std.proofs.Common.{◌≡◌, ◌+◌, List, ℕ, length, true, false, sym, ◌∙◌, ap, subst, arith, rules}
use Rattle.std.specs.Int.{from_bool}
use Rattle.script_text.specs.RawLines.{lines_of, text_of, is_skipped}
use Rattle.script_text.specs.declared.raw_lines.RawLines.{RawLines}
use Rattle.script_text.proofs.LineCuts.{length-lines_of}
use Rattle.cbm_text.specs.FaultyLines.{IsNoted}
use Rattle.cbm_text.proofs.FaultyTexts.{FaultySoFar, at_most_one, short_kept, so_far_all, so_far_none, so_far_noted, so_far_skipped}
use Rattle.cbm_text.proofs.faulty_text.faulty_lines.Goals as goal

pub loop-raw-init : goal.loop-raw-init
loop-raw-init c =
    let text = c.args.text.now in
    let start = c.args.start in
    let same : c.into_iter-raw-iterator.result.0.now ≡ text = ap (λ (r : RawLines). r.0.now) c.into_iter-raw-iterator.ensures.into_iter_gives in
    subst (λ (w : List ℕ). FaultySoFar start start 0 c.args.most 0 text c.new-lines.result.items (lines_of w)) (sym same)
    (so_far_none start c.args.most text c.new-lines.result.items (search rules))

pub overflow_add-place : goal.overflow_add-place
overflow_add-place c =
    let steps = c.in-Some.ensures.steps in
    omega (arith, c.loop-raw.invariant.few, ap length steps, length-lines_of c.args.text.now)

pub overflow_add-count : goal.overflow_add-count
overflow_add-count c =
    let steps = c.in-Some.ensures.steps in
    omega (arith, c.from-count.ensures, at_most_one c.is_err.result, c.loop-raw.invariant.within, c.loop-raw.invariant.few, ap length steps, length-lines_of c.args.text.now)

pub loop-raw-preserved-then-is_skipped : goal.loop-raw-preserved-then-is_skipped
loop-raw-preserved-then-is_skipped c =
    let raw = c.in-Some.raw.now in
    let skipped : is_skipped (text_of raw) ≡ true = ap (λ (w : List ℕ). is_skipped w) (sym c.text-line.ensures) ∙ sym c.is_skipped.ensures ∙ c.if-is_skipped.true in
    so_far_skipped c.args.start c.loop-raw.at c.loop-raw.place c.args.most c.loop-raw.count c.args.text.now raw c.loop-raw.lines.items _ _ c.loop-raw.invariant c.in-Some.ensures.steps skipped

pub noted-requires : goal.noted-requires
noted-requires c = short_kept c.args.start c.loop-raw.at c.loop-raw.place c.args.most c.loop-raw.count c.args.text.now c.loop-raw.lines.items _ c.loop-raw.invariant

pub loop-raw-preserved : goal.loop-raw-preserved
loop-raw-preserved c =
    let raw = c.in-Some.raw.now in
    let at = c.loop-raw.at in
    let place = c.loop-raw.place in
    let outcome = c.push_text_line-outcome.result in
    let kept : is_skipped (text_of raw) ≡ false = ap (λ (w : List ℕ). is_skipped w) (sym c.text-line.ensures) ∙ sym c.is_skipped.ensures ∙ c.if-is_skipped.false in
    so_far_noted c.args.start at c.in_ok-at.at place c.args.most c.loop-raw.count _ c.args.text.now raw c.loop-raw.lines.items c.noted.new.lines.items _ _ outcome c.loop-raw.invariant c.in-Some.ensures.steps kept
    (search rules)
    (search rules)
    (subst (λ (w : List ℕ). IsNoted at w c.args.most outcome c.loop-raw.lines.items c.in_ok-at.at c.noted.new.lines.items) c.text-line.ensures c.in_ok-at.ensures)
    (ap (λ (n : ℕ). c.loop-raw.count + n) (c.from-count.ensures ∙ ap from_bool c.is_err.ensures.value))

pub returns-clause-faulty : goal.returns-clause-faulty
returns-clause-faulty c =
    let i = c.loop-raw.invariant in
    (i.found, so_far_all c.args.start c.loop-raw.at c.loop-raw.place c.args.most c.loop-raw.count c.args.text.now c.loop-raw.lines.items _ i c.in-None.ensures.steps.0, i.first, i.counted)

pub returns-clause-places : goal.returns-clause-places
returns-clause-places c = c.loop-raw.invariant.places
