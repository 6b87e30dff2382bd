-- The first characters of a text, one after another.
use Rattle.std.proofs.Common.{◌≡◌, ◌≢◌, ℕ, suc, ◌+◌, ◌-◌, ◌≤◌, List, [], ◌∷◌, ◌++◌, length, refl, sym, ap, ◌∙◌, append_assoc, append-nil, arith}
use Rattle.std.specs.Char.{encode_utf8}
use Rattle.std.specs.Str.{IsUtf8, chars}
use Rattle.std.proofs.lemmas.Str.{chars-nil, chars_past_char}
use Rattle.program_tips.specs.Tip.{cut_to, typed}

cut_none : (most : ℕ) → cut_to most [] ≡ []
cut_none most = refl

one_more : (count : ℕ) → count ≤ 64 → count ≢ 64 → 64 - count ≡ suc (64 - (count + 1))
one_more count below other = omega (arith, below, other)

no_more : (count : ℕ) → count ≡ 64 → 64 - count ≡ 0
no_more count full = omega (arith, full)

-- a character is taken
pub next_cut : (before whole left more : List ℕ) (count character : ℕ) → IsUtf8 left → left ≡ encode_utf8 character ++ more → count ≤ 64 → count ≢ 64
    → before ++ cut_to (64 - count) (chars left) ≡ whole → (before ++ typed character) ++ cut_to (64 - (count + 1)) (chars more) ≡ whole
next_cut before whole left more count character valid begins below other so =
    append_assoc before (typed character) (cut_to (64 - (count + 1)) (chars more))
    ∙ ap (λ (text : List ℕ). before ++ text) (sym (ap (cut_to (64 - count)) (chars_past_char left more character valid begins)
    ∙ ap (λ (most : ℕ). cut_to most (character ∷ chars more)) (one_more count below other)))
    ∙ so

-- there are more characters than are shown
pub cut_here : (before whole left more : List ℕ) (count character : ℕ) → IsUtf8 left → left ≡ encode_utf8 character ++ more → count ≡ 64
    → before ++ cut_to (64 - count) (chars left) ≡ whole → before ++ cut_to 0 (character ∷ chars more) ≡ whole
cut_here before whole left more count character valid begins full so =
    ap (λ (text : List ℕ). before ++ text) (sym (ap (cut_to (64 - count)) (chars_past_char left more character valid begins)
    ∙ ap (λ (most : ℕ). cut_to most (character ∷ chars more)) (no_more count full)))
    ∙ so

-- all characters are taken
pub cut_whole : (before whole left : List ℕ) (most : ℕ) → length left ≡ 0 → before ++ cut_to most (chars left) ≡ whole → before ≡ whole
cut_whole before whole [] most none so = sym (append-nil before) ∙ ap (λ (text : List ℕ). before ++ text) (sym (ap (cut_to most) chars-nil ∙ cut_none most)) ∙ so
cut_whole before whole (byte ∷ left) most none so = absurd (omega (arith, none))
