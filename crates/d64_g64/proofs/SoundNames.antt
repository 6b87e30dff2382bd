-- The names of headers, one after another
use Rattle.std.proofs.Common.{◌≡◌, ℕ, ◌+◌, ◌<◌, ◌≤◌, suc, Bool, true, false, cond, Option, List, [], ◌∷◌, ◌++◌, length, map, filter, get_or, drop, refl, sym, ap, ap₂, ◌∙◌, append_assoc, append-nil, arith}
use Rattle.d64_g64.specs.Starts.{next_of, paired}
use Rattle.d64_g64.specs.SoundNames.{is_sound_header, pair_named, names_by}
use Rattle.d64_g64.proofs.StartPairs.{drop-paired, no_pairs_left}

-- the first of them, and the others
names-cons : (id : Option (ℕ × ℕ)) (track : List ℕ) (pair : ℕ × ℕ) (pairs : List (ℕ × ℕ)) → names_by id track (pair ∷ pairs) ≡ names_by id track (pair ∷ []) ++ names_by id track pairs
unfolding names_by
names-cons id track pair pairs = by (is_sound_header id track pair)
  where
    by : (b : Bool) → map (pair_named track) (cond b (pair ∷ filter (is_sound_header id track) pairs) (filter (is_sound_header id track) pairs))
        ≡ map (pair_named track) (cond b (pair ∷ []) []) ++ map (pair_named track) (filter (is_sound_header id track) pairs)
    by true = refl
    by false = refl

-- one more was added
pub name_added : (id : Option (ℕ × ℕ)) (track starts : List ℕ) (place : ℕ) (old new all : List (ℕ × ℕ)) → place < length starts
    → new ≡ old ++ names_by id track ((get_or starts place 0, next_of starts place) ∷ [])
    → old ++ names_by id track (drop place (paired starts)) ≡ all
    → new ++ names_by id track (drop (place + 1) (paired starts)) ≡ all
name_added id track starts place old new all h is so_far =
    let e : place + 1 ≡ suc place = omega arith in
    let pair : ℕ × ℕ = (get_or starts place 0, next_of starts place) in
    let rest = names_by id track (drop (suc place) (paired starts)) in
    ap₂ (λ (a : List (ℕ × ℕ)) (n : ℕ). a ++ names_by id track (drop n (paired starts))) is e
    ∙ append_assoc old (names_by id track (pair ∷ [])) rest
    ∙ ap (λ (b : List (ℕ × ℕ)). old ++ b) (sym (names-cons id track pair (drop (suc place) (paired starts))) ∙ ap (names_by id track) (sym (drop-paired starts place h)))
    ∙ so_far

-- all were added
pub all_added : (id : Option (ℕ × ℕ)) (track starts : List ℕ) (place : ℕ) (old all : List (ℕ × ℕ)) → length starts ≤ place
    → old ++ names_by id track (drop place (paired starts)) ≡ all → old ≡ all
unfolding names_by
all_added id track starts place old all h so_far =
    sym (append-nil old) ∙ ap (λ (pairs : List (ℕ × ℕ)). old ++ names_by id track pairs) (sym (no_pairs_left starts place h)) ∙ so_far
