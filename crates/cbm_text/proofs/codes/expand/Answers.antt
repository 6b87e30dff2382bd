use Rattle.std.proofs.Common.{◌+◌, ℕ, List, ◌++◌, drop, get_or, sym, ◌∙◌, ap, append_assoc}
use Rattle.std.proofs.lemmas.List.{append-nil}
use Rattle.cbm_text.specs.declared.mode.Mode.{Mode}
use Rattle.cbm_text.specs.Modes.{next_mode, expanded_from, text_of_code}
use Rattle.cbm_text.proofs.CodesSoFar.{expanded_one, expanded_none}
use Rattle.cbm_text.proofs.codes.expand.Goals as goal

pub loop-code-preserved : goal.loop-code-preserved
loop-code-preserved c =
    let codes = c.args.codes.now in
    let bytes = c.loop-code.bytes.items in
    let i = c.loop-code.code-index in
    let mode = c.loop-code.mode in
    let code = get_or codes i 0 in
    let left = expanded_from (next_mode mode code) (drop (i + 1) codes) in
    c.loop-code.invariant ∙ ap (λ (w : List ℕ). bytes ++ w) (expanded_one mode codes i c.loop-code-test.true) ∙ sym (append_assoc bytes (text_of_code mode code) left)
    ∙ ap (λ (w : List ℕ). w ++ left) (sym c.in_ok-push_shown.ensures) ∙ ap (λ (m : Mode). c.push_shown.new.bytes.items ++ expanded_from m (drop (i + 1) codes)) (sym c.after-mode.ensures)

pub returns : goal.returns
returns c =
    let codes = c.args.codes.now in
    let bytes = c.loop-code.bytes.items in
    sym (c.loop-code.invariant ∙ ap (λ (w : List ℕ). bytes ++ w) (expanded_none c.loop-code.mode codes c.loop-code.code-index c.loop-code-test.false) ∙ append-nil bytes)
