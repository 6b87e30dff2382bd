-- The reasons why a file isn't whole in words, one at a time.
use Rattle.std.proofs.Common.{◌≡◌, ℕ, ◌+◌, ◌<◌, ◌≤◌, List, ◌++◌, length, drop, get_or, sym, ap, ◌∙◌, append_assoc, append-nil, add-one}
use Rattle.std.proofs.Math.Seq.{drop-cons}
use Rattle.std.proofs.lemmas.List.{drop_all}
use Rattle.d64_survey.specs.declared.flaw.Flaw.{Flaw}
use Rattle.out_messages.specs.FileText.{comma, flaw_text, flaws_from}

-- one more reason is written
pub flaw_more : (shown there place : ℕ) (before between after whole : List ℕ) (flaws : List Flaw) (i : ℕ) (d : Flaw)
    → place ≡ i → i < length flaws → between ≡ before ++ comma place → after ≡ between ++ flaw_text shown there (get_or flaws i d)
    → before ++ flaws_from shown there i (drop i flaws) ≡ whole → after ++ flaws_from shown there (i + 1) (drop (i + 1) flaws) ≡ whole
unfolding flaws_from
flaw_more shown there place before between after whole flaws i d here within apart known so =
    let flaw = get_or flaws i d in
    let left = flaws_from shown there (i + 1) (drop (i + 1) flaws) in
    let step : flaws_from shown there i (drop i flaws) ≡ comma i ++ (flaw_text shown there flaw ++ left) =
    ap (flaws_from shown there i) (drop-cons flaws i d within)
    ∙ ap (λ (n : ℕ). comma i ++ (flaw_text shown there flaw ++ flaws_from shown there n (drop n flaws))) (sym (add-one i)) in
    ap (λ (text : List ℕ). text ++ left) known
    ∙ append_assoc between (flaw_text shown there flaw) left
    ∙ ap (λ (text : List ℕ). text ++ (flaw_text shown there flaw ++ left)) apart
    ∙ append_assoc before (comma place) (flaw_text shown there flaw ++ left)
    ∙ ap (λ (n : ℕ). before ++ (comma n ++ (flaw_text shown there flaw ++ left))) here
    ∙ ap (λ (text : List ℕ). before ++ text) (sym step)
    ∙ so

-- all reasons are written
pub flaws_end : (shown there : ℕ) (before whole : List ℕ) (flaws : List Flaw) (i : ℕ) → length flaws ≤ i
    → before ++ flaws_from shown there i (drop i flaws) ≡ whole → before ≡ whole
unfolding flaws_from
flaws_end shown there before whole flaws i end so =
    sym (append-nil before) ∙ ap (λ (left : List Flaw). before ++ flaws_from shown there i left) (sym (drop_all i flaws end)) ∙ so
