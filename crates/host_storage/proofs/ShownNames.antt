-- Names as they are shown, a character at a time.
use Rattle.std.proofs.Common.{◌≡◌, ℕ, zero, suc, ◌-◌, ◌≤◌, List, [], ◌∷◌, ◌++◌, length, take, drop, get_or, refl, sym, ap, ◌∙◌, append_assoc, arith}
use Rattle.petscii.proofs.Readings.{first_and_others}
use Rattle.std.specs.Prelude.{unwrap_or}
use Rattle.host_storage.specs.Shown.{following_count, shown_first, shown_after, shown_in}
use Rattle.host_storage.specs.declared.medium.Medium.{Medium}

-- what is shown after the first n bytes is what is left without them
pub shown_after-drop : (medium : Medium) (count : ℕ) (bytes : List ℕ) → shown_after medium count bytes ≡ shown_after medium 0 (drop count bytes)
unfolding shown_after
shown_after-drop medium zero [] = refl
shown_after-drop medium (suc count) [] = refl
shown_after-drop medium zero (byte ∷ rest) = refl
shown_after-drop medium (suc count) (byte ∷ rest) = shown_after-drop medium count rest

-- nothing shows as nothing
pub shown_in-nil : (medium : Medium) (bytes : List ℕ) → length bytes ≡ 0 → shown_in medium bytes ≡ []
unfolding shown_after
shown_in-nil medium [] none = refl
shown_in-nil medium (byte ∷ rest) none = absurd (omega arith)

-- bytes show as their first character, or byte, and then as what is left
pub shown_in-cons : (medium : Medium) (first : ℕ) (rest left : List ℕ) → left ≡ drop (unwrap_or (following_count first rest) 0) rest
    → shown_in medium (first ∷ rest) ≡ shown_first medium first rest ++ shown_in medium left
unfolding shown_after
shown_in-cons medium first rest left is =
    ap (λ (more : List ℕ). shown_first medium first rest ++ more)
    (shown_after-drop medium (unwrap_or (following_count first rest) 0) rest ∙ ap (shown_in medium) (sym is))

-- one character or byte more is shown
pub shown_more : (medium : Medium) (before after whole left next : List ℕ) → 1 ≤ length left
    → after ≡ before ++ shown_first medium (get_or left 0 0) (take (length left - 1) (drop 1 left))
    → next ≡ drop (unwrap_or (following_count (get_or left 0 0) (take (length left - 1) (drop 1 left))) 0) (take (length left - 1) (drop 1 left))
    → before ++ shown_in medium left ≡ whole → after ++ shown_in medium next ≡ whole
shown_more medium before after whole left next some added dropped so =
    let first = get_or left 0 0 in
    let rest = take (length left - 1) (drop 1 left) in
    ap (λ (text : List ℕ). text ++ shown_in medium next) added
    ∙ append_assoc before (shown_first medium first rest) (shown_in medium next)
    ∙ ap (λ (text : List ℕ). before ++ text) (sym (shown_in-cons medium first rest next dropped))
    ∙ ap (λ (bytes : List ℕ). before ++ shown_in medium bytes) (sym (first_and_others left some))
    ∙ so
