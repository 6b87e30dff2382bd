-- Numbers of conditions, one after another.
use Rattle.std.proofs.Common.{◌≡◌, ℕ, Bool, true, false, cond, List, [], ◌∷◌, ◌++◌, refl, ap, ◌∙◌, append_assoc}
use Rattle.d64_inventory.specs.Conditions.{is_condition_of, conditions}

-- a number, if its condition fails
abbrev where_fails : Bool → ℕ → List ℕ
where_fails fails n = cond fails (n ∷ []) []

-- those of the four that fail
abbrev listed : Bool → Bool → Bool → Bool → List ℕ
listed a b c d = where_fails a 3 ++ (where_fails b 4 ++ (where_fails c 5 ++ where_fails d 6))

-- they are the numbers that pass the tests
passed : (a b c d : Bool) → listed a b c d ≡ cond a (3 ∷ cond b (4 ∷ cond c (5 ∷ cond d (6 ∷ []) []) (cond d (6 ∷ []) [])) (cond c (5 ∷ cond d (6 ∷ []) []) (cond d (6 ∷ []) []))) (cond b (4 ∷ cond c (5 ∷ cond d (6 ∷ []) []) (cond d (6 ∷ []) [])) (cond c (5 ∷ cond d (6 ∷ []) []) (cond d (6 ∷ []) [])))
passed true true true d = refl
passed true true false d = refl
passed true false true d = refl
passed true false false d = refl
passed false true true d = refl
passed false true false d = refl
passed false false true d = refl
passed false false false d = refl

-- a list and what comes after it, before the rest
then_rest : (list longer more rest : List ℕ) → longer ≡ list ++ more → longer ++ rest ≡ list ++ (more ++ rest)
then_rest list longer more rest e = ap (λ (l : List ℕ). l ++ rest) e ∙ append_assoc list more rest

-- numbers, one after another, are the conditions of a slot
pub all_numbers : (image : List (List ℕ)) (slot : ℕ) (none l3 l4 l5 l6 : List ℕ) (a b c d : Bool) → a ≡ is_condition_of image slot 3 → b ≡ is_condition_of image slot 4
    → c ≡ is_condition_of image slot 5 → d ≡ is_condition_of image slot 6 → none ≡ [] → l3 ≡ none ++ where_fails a 3 → l4 ≡ l3 ++ where_fails b 4
    → l5 ≡ l4 ++ where_fails c 5 → l6 ≡ l5 ++ where_fails d 6 → l6 ≡ conditions image slot
unfolding conditions
all_numbers image slot none l3 l4 l5 l6 a b c d ta tb tc td e e3 e4 e5 e6 =
    let r6 = where_fails d 6 in
    let r5 = where_fails c 5 ++ r6 in
    let r4 = where_fails b 4 ++ r5 in
    e6 ∙ then_rest l4 l5 (where_fails c 5) r6 e5 ∙ then_rest l3 l4 (where_fails b 4) r5 e4 ∙ then_rest none l3 (where_fails a 3) r4 e3
    ∙ ap (λ (l : List ℕ). l ++ (where_fails a 3 ++ r4)) e
    ∙ ap (λ (t : Bool). listed t b c d) ta ∙ ap (λ (t : Bool). listed (is_condition_of image slot 3) t c d) tb
    ∙ ap (λ (t : Bool). listed (is_condition_of image slot 3) (is_condition_of image slot 4) t d) tc
    ∙ ap (λ (t : Bool). listed (is_condition_of image slot 3) (is_condition_of image slot 4) (is_condition_of image slot 5) t) td
    ∙ passed (is_condition_of image slot 3) (is_condition_of image slot 4) (is_condition_of image slot 5) (is_condition_of image slot 6)
