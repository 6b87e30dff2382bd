-- Texts that are added one after the other.
use Rattle.std.proofs.Common.{◌≡◌, ℕ, List, ◌++◌, ap, ◌∙◌, append_assoc}

-- two
pub join2 : (o a b o1 o2 : List ℕ) → o1 ≡ o ++ a → o2 ≡ o1 ++ b → o2 ≡ o ++ (a ++ b)
join2 o a b o1 o2 e1 e2 = e2 ∙ ap (λ (t : List ℕ). t ++ b) e1 ∙ append_assoc o a b

-- three
pub join3 : (o a b c o1 o2 o3 : List ℕ) → o1 ≡ o ++ a → o2 ≡ o1 ++ b → o3 ≡ o2 ++ c → o3 ≡ o ++ (a ++ (b ++ c))
join3 o a b c o1 o2 o3 e1 e2 e3 = join2 o a (b ++ c) o1 o3 e1 (join2 o1 b c o2 o3 e2 e3)

-- four
pub join4 : (o a b c d o1 o2 o3 o4 : List ℕ) → o1 ≡ o ++ a → o2 ≡ o1 ++ b → o3 ≡ o2 ++ c → o4 ≡ o3 ++ d → o4 ≡ o ++ (a ++ (b ++ (c ++ d)))
join4 o a b c d o1 o2 o3 o4 e1 e2 e3 e4 = join2 o a (b ++ (c ++ d)) o1 o4 e1 (join3 o1 b c d o2 o3 o4 e2 e3 e4)

-- five
pub join5 : (o a b c d e o1 o2 o3 o4 o5 : List ℕ) → o1 ≡ o ++ a → o2 ≡ o1 ++ b → o3 ≡ o2 ++ c → o4 ≡ o3 ++ d → o5 ≡ o4 ++ e
    → o5 ≡ o ++ (a ++ (b ++ (c ++ (d ++ e))))
join5 o a b c d e o1 o2 o3 o4 o5 e1 e2 e3 e4 e5 = join2 o a (b ++ (c ++ (d ++ e))) o1 o5 e1 (join4 o1 b c d e o2 o3 o4 o5 e2 e3 e4 e5)

-- six
pub join6 : (o a b c d e f o1 o2 o3 o4 o5 o6 : List ℕ) → o1 ≡ o ++ a → o2 ≡ o1 ++ b → o3 ≡ o2 ++ c → o4 ≡ o3 ++ d → o5 ≡ o4 ++ e → o6 ≡ o5 ++ f
    → o6 ≡ o ++ (a ++ (b ++ (c ++ (d ++ (e ++ f)))))
join6 o a b c d e f o1 o2 o3 o4 o5 o6 e1 e2 e3 e4 e5 e6 = join2 o a (b ++ (c ++ (d ++ (e ++ f)))) o1 o6 e1 (join5 o1 b c d e f o2 o3 o4 o5 o6 e2 e3 e4 e5 e6)
