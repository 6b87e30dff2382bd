-- Starts with the ones that follow them
use Rattle.std.proofs.Common.{◌≡◌, ℕ, zero, suc, ◌+◌, ◌<◌, ◌≤◌, Bool, true, false, cond, ltb, Some, None, List, [], ◌∷◌, length, get_or, drop, refl, sym, ap, ◌∙◌, inl, inr, arith}
use Rattle.std.specs.List.{find}
use Rattle.std.proofs.lemmas.Bool.{lt-ltb, le-ltb, cases_lt}
use Rattle.d64_g64.specs.Starts.{with_next, next_of, paired}

-- the start after one of a list, if this one comes after the last
abbrev next_from : ℕ → List ℕ → ℕ → ℕ
next_from first starts place = cond (ltb (place + 1) (length starts)) (get_or starts (place + 1) 0) first

-- the pairs from a place on
drop-with_next : (first : ℕ) (starts : List ℕ) (place : ℕ) → place < length starts
    → drop place (with_next first starts) ≡ (get_or starts place 0, next_from first starts place) ∷ drop (suc place) (with_next first starts)
unfolding with_next
drop-with_next first [] place h = absurd (omega arith)
drop-with_next first (start ∷ []) zero h = refl
drop-with_next first (start ∷ []) (suc place) h = absurd (omega arith)
drop-with_next first (start ∷ next ∷ rest) zero h =
    let e : 0 + 1 ≡ 1 = omega arith in
    let held : ltb (0 + 1) (length (start ∷ next ∷ rest)) ≡ true = lt-ltb _ _ (omega arith) in
    ap (λ (x : ℕ). (start, x) ∷ with_next first (next ∷ rest)) (sym (ap (λ (b : Bool). cond b (get_or (start ∷ next ∷ rest) (0 + 1) 0) first) held))
drop-with_next first (start ∷ next ∷ rest) (suc place) h =
    drop-with_next first (next ∷ rest) place (omega arith)
    ∙ ap (λ (x : ℕ). (get_or (next ∷ rest) place 0, x) ∷ drop (suc place) (with_next first (next ∷ rest))) (along (next ∷ rest) place start)
  where
    both_more : (a b : ℕ) → ltb (suc a) (suc b) ≡ ltb a b
    both_more a b = elim (cases_lt a b) [
      | inl less ↦ lt-ltb (suc a) (suc b) (omega arith) ∙ sym (lt-ltb a b less)
      | inr more ↦ le-ltb (suc a) (suc b) (omega arith) ∙ sym (le-ltb a b more)
    ]

    along : (starts : List ℕ) (place before : ℕ) → next_from first starts place ≡ next_from first (before ∷ starts) (suc place)
    along starts place before =
        let e : suc place + 1 ≡ suc (place + 1) = omega arith in
        sym (ap (λ (x : ℕ). cond (ltb x (length (before ∷ starts))) (get_or (before ∷ starts) x 0) first) e
        ∙ ap (λ (b : Bool). cond b (get_or starts (place + 1) 0) first) (both_more (place + 1) (length starts)))

-- all pairs
length-with_next : (first : ℕ) (starts : List ℕ) → length (with_next first starts) ≡ length starts
unfolding with_next
length-with_next first [] = refl
length-with_next first (start ∷ []) = refl
length-with_next first (start ∷ next ∷ rest) = ap suc (length-with_next first (next ∷ rest))

-- the pairs of all starts from a place on
pub drop-paired : (starts : List ℕ) (place : ℕ) → place < length starts
    → drop place (paired starts) ≡ (get_or starts place 0, next_of starts place) ∷ drop (suc place) (paired starts)
drop-paired [] place h = absurd (omega arith)
drop-paired (first ∷ rest) place h = drop-with_next first (first ∷ rest) place h

-- a search along the pairs: one that passes, one that fails, and the end
pub pair_here : (p : ℕ × ℕ → Bool) (starts : List ℕ) (place : ℕ) → place < length starts → p (get_or starts place 0, next_of starts place) ≡ true
    → find p (drop place (paired starts)) ≡ Some (get_or starts place 0, next_of starts place)
pair_here p starts place h passes =
    ap (find p) (drop-paired starts place h)
    ∙ ap (λ (b : Bool). cond b (Some (get_or starts place 0, next_of starts place)) (find p (drop (suc place) (paired starts)))) passes

pub pair_later : (p : ℕ × ℕ → Bool) (starts : List ℕ) (place : ℕ) → place < length starts → p (get_or starts place 0, next_of starts place) ≡ false
    → find p (drop place (paired starts)) ≡ find p (drop (place + 1) (paired starts))
pair_later p starts place h fails =
    let e : suc place ≡ place + 1 = omega arith in
    ap (find p) (drop-paired starts place h)
    ∙ ap (λ (b : Bool). cond b (Some (get_or starts place 0, next_of starts place)) (find p (drop (suc place) (paired starts)))) fails
    ∙ ap (λ (x : ℕ). find p (drop x (paired starts))) e

-- after the last one there is no pair
pub no_pairs_left : (starts : List ℕ) (place : ℕ) → length starts ≤ place → drop place (paired starts) ≡ []
no_pairs_left starts place h = all starts place h
  where
    drop-of-nil : (place : ℕ) → let none : List (ℕ × ℕ) = [] in drop place none ≡ []
    drop-of-nil zero = refl
    drop-of-nil (suc place) = refl

    past : (xs : List (ℕ × ℕ)) (n : ℕ) → length xs ≤ n → drop n xs ≡ []
    past [] n h = drop-of-nil n
    past (x ∷ xs) zero h = absurd (omega arith)
    past (x ∷ xs) (suc n) h = past xs n (omega arith)

    all : (starts : List ℕ) (place : ℕ) → length starts ≤ place → drop place (paired starts) ≡ []
    all [] place h = drop-of-nil place
    all (first ∷ rest) place h = past (with_next first (first ∷ rest)) place (let e = length-with_next first (first ∷ rest) in omega (arith, e, h))

pub no_pair_left : (p : ℕ × ℕ → Bool) (starts : List ℕ) (place : ℕ) → length starts ≤ place → find p (drop place (paired starts)) ≡ None
no_pair_left p starts place h = ap (find p) (no_pairs_left starts place h)
