-- Texts that were added one after another
use Rattle.std.proofs.Common.{◌≡◌, ℕ, List, ◌++◌, ap, ◌∙◌, append_assoc}

-- two texts, three, and four
pub two : (old a b first last : List ℕ) → first ≡ old ++ a → last ≡ first ++ b → last ≡ old ++ (a ++ b)
two old a b first last e f = f ∙ ap (λ (text : List ℕ). text ++ b) e ∙ append_assoc old a b

pub three : (old a b c first second last : List ℕ) → first ≡ old ++ a → second ≡ first ++ b → last ≡ second ++ c → last ≡ old ++ (a ++ (b ++ c))
three old a b c first second last e f g = two old a (b ++ c) first last e (two first b c second last f g)

pub four : (old a b c d first second third last : List ℕ) → first ≡ old ++ a → second ≡ first ++ b → third ≡ second ++ c → last ≡ third ++ d → last ≡ old ++ (a ++ (b ++ (c ++ d)))
four old a b c d first second third last e f g h = two old a (b ++ (c ++ d)) first last e (three first b c d second third last f g h)
