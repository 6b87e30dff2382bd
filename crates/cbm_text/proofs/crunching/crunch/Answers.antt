use Rattle.std.proofs.Common.{◌≡◌, ◌⊎◌, ℕ, ◌+◌, List, ◌++◌, ◌≤◌, length, true, false, sym, ◌∙◌, ap, subst, inl, inr, arith, rules}
use Rattle.script_text.specs.RawLines.{lines_of, text_of, is_skipped}
use Rattle.script_text.specs.declared.raw_lines.RawLines.{RawLines}
use Rattle.script_text.proofs.LineCuts.{length-lines_of}
use Rattle.cbm_text.specs.Program.{word}
use Rattle.cbm_text.specs.BasicText.{IsLine, HasFault, IsFileOf, IsFirstBasicFault, IsBasicOutOfMemory, NamesLine}
use Rattle.cbm_text.proofs.TextPrograms.{ProgramSoFar, so_far_nothing, so_far_skipped, so_far_line, so_far_fault, so_far_whole, names_line}
use Rattle.cbm_text.proofs.crunching.crunch.Goals as goal

pub loop-raw-init : goal.loop-raw-init
loop-raw-init c =
    let text = c.args.text.now in
    let start = c.args.start in
    let file = c.push_word.new.file.items in
    let same : c.into_iter-raw-iterator.result.0.now ≡ text = ap (λ (r : RawLines). r.0.now) c.into_iter-raw-iterator.ensures.into_iter_gives in
    subst (λ (w : List ℕ). ProgramSoFar start start 0 text file (lines_of w)) (sym same)
    (so_far_nothing start text file (c.in_ok-push_word.ensures ∙ ap (λ (w : List ℕ). w ++ word start) c.in_ok-file.ensures.items))

pub overflow_add-place : goal.overflow_add-place
overflow_add-place c =
    let steps = c.in-Some.ensures.steps in
    omega (arith, c.loop-raw.invariant.few, ap length steps, length-lines_of c.args.text.now)

pub loop-raw-preserved-then-is_skipped : goal.loop-raw-preserved-then-is_skipped
loop-raw-preserved-then-is_skipped c =
    let raw = c.in-Some.raw.now in
    let skipped : is_skipped (text_of raw) ≡ true = ap (λ (w : List ℕ). is_skipped w) (sym c.text-line.ensures) ∙ sym c.is_skipped.ensures ∙ c.if-is_skipped.true in
    so_far_skipped c.args.start c.loop-raw.at c.loop-raw.place c.args.text.now c.loop-raw.file.items raw _ _ c.loop-raw.invariant c.in-Some.ensures.steps skipped

pub returns-in_err-at-clause-fault : goal.returns-in_err-at-clause-fault
returns-in_err-at-clause-fault c =
    let text = c.args.text.now in
    let raw = c.in-Some.raw.now in
    let fault = c.in_err-at.field-0.0 in
    let kept : is_skipped (text_of raw) ≡ false = ap (λ (w : List ℕ). is_skipped w) (sym c.text-line.ensures) ∙ sym c.is_skipped.ensures ∙ c.if-is_skipped.false in
    let known : IsBasicOutOfMemory fault ⊎ IsFirstBasicFault c.args.start text fault =
    elim c.in_err-at.ensures.fault [
      | inl memory ↦ inl memory
      | inr here ↦ inr (so_far_fault c.args.start c.loop-raw.at c.loop-raw.place text c.loop-raw.file.items raw _ _ fault c.loop-raw.invariant c.in-Some.ensures.steps kept
          (subst (λ (w : List ℕ). HasFault c.loop-raw.at (c.loop-raw.place + 1) w fault) c.text-line.ensures here))
    ] in
    search rules

pub returns-in_err-at-clause-place : goal.returns-in_err-at-clause-place
returns-in_err-at-clause-place c =
    let text = c.args.text.now in
    let raw = c.in-Some.raw.now in
    let fault = c.in_err-at.field-0.0 in
    let within : c.loop-raw.place + 1 ≤ length (lines_of text) = omega (arith, c.loop-raw.invariant.few, ap length c.in-Some.ensures.steps) in
    let known : NamesLine text fault = names_line c.loop-raw.at (c.loop-raw.place + 1) text c.text-line.result.now fault (omega arith) within c.in_err-at.ensures.fault in
    search rules

pub loop-raw-preserved : goal.loop-raw-preserved
loop-raw-preserved c =
    let raw = c.in-Some.raw.now in
    let kept : is_skipped (text_of raw) ≡ false = ap (λ (w : List ℕ). is_skipped w) (sym c.text-line.ensures) ∙ sym c.is_skipped.ensures ∙ c.if-is_skipped.false in
    let (line, is_line, behind, joined) = c.in_ok-at.ensures.line in
    so_far_line c.args.start c.loop-raw.at c.in_ok-at.at c.loop-raw.place c.args.text.now c.loop-raw.file.items c.push_text_line.new.file.items raw _ _ line c.loop-raw.invariant c.in-Some.ensures.steps kept
    (subst (λ (w : List ℕ). IsLine c.loop-raw.at w line) c.text-line.ensures is_line) behind joined

pub returns-clause-crunched : goal.returns-clause-crunched
returns-clause-crunched c =
    subst (λ (w : List ℕ). IsFileOf c.args.start c.args.text.now w) (sym c.in_ok-push_word-2.ensures)
    (so_far_whole c.args.start c.loop-raw.at c.loop-raw.place c.args.text.now c.loop-raw.file.items _ c.loop-raw.invariant c.in-None.ensures.steps.0)
