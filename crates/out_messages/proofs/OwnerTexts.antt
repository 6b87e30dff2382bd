-- Owners in words, one at a time.
use Rattle.std.proofs.Common.{◌≡◌, ℕ, suc, ◌+◌, ◌<◌, ◌≤◌, List, ◌∷◌, ◌++◌, length, drop, get_or, sym, ap, ◌∙◌, append_assoc, append-nil, add-one}
use Rattle.std.proofs.Math.Seq.{drop-cons}
use Rattle.std.proofs.lemmas.List.{drop_all}
use Rattle.d64_survey.specs.declared.owner.Owner.{Owner}
use Rattle.out_messages.specs.OwnerText.{separator, owner_text, owners_from}

-- what is left of a list begins with the item at its place
next_item : {X : Type 0} (xs : List X) (i : ℕ) (x : X) → i < length xs → x ≡ get_or xs i x → drop i xs ≡ x ∷ drop (i + 1) xs
next_item {X = X} xs i x within is = drop-cons xs i x within ∙ ap (λ (y : X). y ∷ drop (suc i) xs) (sym is) ∙ ap (λ (n : ℕ). x ∷ drop n xs) (sym (add-one i))

-- one owner more is named
pub owner_more : (image : List (List ℕ)) (count place : ℕ) (before between after whole : List ℕ) (owners : List Owner) (i : ℕ) (owner : Owner)
    → place ≡ i → i < length owners → owner ≡ get_or owners i owner → between ≡ before ++ separator count place → after ≡ between ++ owner_text image owner
    → before ++ owners_from image count i (drop i owners) ≡ whole → after ++ owners_from image count (i + 1) (drop (i + 1) owners) ≡ whole
unfolding owners_from
owner_more image count place before between after whole owners i owner here within is apart named so =
    let left = owners_from image count (i + 1) (drop (i + 1) owners) in
    let step : owners_from image count i (drop i owners) ≡ separator count i ++ (owner_text image owner ++ left) =
    ap (owners_from image count i) (next_item owners i owner within is)
    ∙ ap (λ (n : ℕ). separator count i ++ (owner_text image owner ++ owners_from image count n (drop (i + 1) owners))) (sym (add-one i)) in
    ap (λ (text : List ℕ). text ++ left) named
    ∙ append_assoc between (owner_text image owner) left
    ∙ ap (λ (text : List ℕ). text ++ (owner_text image owner ++ left)) apart
    ∙ append_assoc before (separator count place) (owner_text image owner ++ left)
    ∙ ap (λ (n : ℕ). before ++ (separator count n ++ (owner_text image owner ++ left))) here
    ∙ ap (λ (text : List ℕ). before ++ text) (sym step)
    ∙ so

-- all owners are named
pub owners_end : (image : List (List ℕ)) (count : ℕ) (before whole : List ℕ) (owners : List Owner) (i : ℕ) → length owners ≤ i
    → before ++ owners_from image count i (drop i owners) ≡ whole → before ≡ whole
unfolding owners_from
owners_end image count before whole owners i end so =
    sym (append-nil before) ∙ ap (λ (left : List Owner). before ++ owners_from image count i left) (sym (drop_all i owners end)) ∙ so
