use Rattle.std.proofs.Common.{◌≡◌, ℕ, ◌++◌, ◌<◌, ◌≤◌, true, false, List, length, drop, get_or, subst, sym, ap, ◌∙◌, append-nil, arith, rules}
use Rattle.std.proofs.lemmas.List.{drop_more, drop_all}
use Rattle.script_lines.specs.FileText.{typed_text}
use Rattle.script_lines.proofs.FileTexts.{text_after, text_after-begin, one_more, at_end}
use Rattle.script_lines.proofs.file_text.file_text.Goals as goal
use Rattle.script_lines.proofs.file_text.file_text.Goals.{then-is_open+in_ok-push, else-is_open}

pub loop-byte-init : goal.loop-byte-init
loop-byte-init c = ap (λ (text : List ℕ). text ++ text_after false c.args.content.now) c.new-text.ensures.items ∙ text_after-begin c.args.content.now

pub loop-byte-preserved : goal.loop-byte-preserved
loop-byte-preserved c =
    let content = c.args.content.now in
    let place = c.loop-byte.byte-index in
    let within : place < length content = omega arith in
    one_more c.loop-byte.is_open c.loop-byte.text.items c.push_byte.new.text.items content place (get_or content place 0)
    (drop_more content place 0 within) c.in_ok-push_byte.ensures c.loop-byte.invariant

pub returns : goal.returns
returns c =
    let content = c.args.content.now in
    let place = c.loop-byte.byte-index in
    let past : length content ≤ place = omega arith in
    let none = drop_all place content past in
    elim c.if-is_open.branch [
      | then-is_open+in_ok-push w ↦
          let is_open : c.loop-byte.is_open ≡ true = search rules in
          ap (λ text. text.items) w.text-is ∙ w.in_ok-push.ensures.items
          ∙ at_end true c.loop-byte.text.items content place none
          (subst (λ begun. c.loop-byte.text.items ++ text_after begun (drop place content) ≡ typed_text content) is_open c.loop-byte.invariant)
      | else-is_open w ↦
          let is_closed : c.loop-byte.is_open ≡ false = search rules in
          ap (λ text. text.items) w.text-is ∙ sym (append-nil c.loop-byte.text.items)
          ∙ at_end false c.loop-byte.text.items content place none
          (subst (λ begun. c.loop-byte.text.items ++ text_after begun (drop place content) ≡ typed_text content) is_closed c.loop-byte.invariant)
    ]
