-- What the text of a line asks for is what the line asks for.
use Rattle.std.proofs.Common.{◌≡◌, ℕ, List, false, cond, Option, None, Some, sym, ap, ◌∙◌, subst}
use Rattle.std.specs.Prelude.{MatchOption}
use Rattle.script_text.specs.RawLines.{is_skipped, is_too_long, text_of}
use Rattle.script_lines.specs.declared.status.Status.TheVariants.{LongLine}
use Rattle.d64_history.specs.History.{History}
use Rattle.script_lines.specs.Act.{Act, Refuse, Does, Ending, LineResponse, World}
use Rattle.script_lines.specs.Line.{act_of_line, act_of_text, IsExecuted}

-- what a line asks for whose text is known
pub act_of_line-text : (home : Option (List ℕ)) (raw text : List ℕ) (history : History) → is_too_long raw ≡ false → text_of raw ≡ text
    → act_of_line home history raw ≡ cond (is_skipped text) None (Some (act_of_text home history text))
unfolding act_of_line
act_of_line-text home raw text history short is_text =
    let asked : List ℕ → Option (Act Ending) = λ t. cond (is_skipped t) None (Some (act_of_text home history t)) in
    ap (λ b. cond b (Some (Refuse LongLine)) (asked (text_of raw))) short ∙ ap asked is_text

-- what runs the text of a line runs the line
pub IsExecuted-text : (home : Option (List ℕ)) (raw text : List ℕ) (history : History) (world : World) (response said : LineResponse) (after : World)
    → is_too_long raw ≡ false → text_of raw ≡ text → is_skipped text ≡ false
    → response ≡ said → Does (act_of_text home history text) world said after
    → IsExecuted home history raw world response after
IsExecuted-text home raw text history world response said after short is_text kept is done =
    let same = act_of_line-text home raw text history short is_text ∙ ap (λ b. cond b None (Some (act_of_text home history text))) kept in
    subst (λ asked. MatchOption asked ⊥ (λ act. Does act world response after)) (sym same)
    (subst (λ found. Does (act_of_text home history text) world found after) (sym is) done)
