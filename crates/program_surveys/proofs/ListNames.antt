-- The names of a list, and what is kept of them.
use Rattle.std.proofs.Common.{◌≡◌, ℕ, ◌+◌, ◌-◌, ◌≤◌, Bool, true, false, List, [], ◌∷◌, ◌++◌, refl, sym, ap, ◌∙◌, map, filter, take, length, min, nat_le, arith, rules, inl, inr, if◌then◌else◌}
use Rattle.std.proofs.lemmas.Bool.{cases_Bool, lt-ltb}
use Rattle.std.proofs.lemmas.List.{map-append, length-take, length-take-le, take-append-le, take_all}
use Rattle.std.proofs.lemmas.List.Elements.{filter-append}
use Rattle.std.proofs.Math.Seq.{take-append-add}
use Rattle.program_surveys.specs.Names.{kept_name, is_listed_name, listed_name, requests_in, requests_of}

-- a piece is a name if and only if what is kept of it is one
is_name-kept_name : (piece : List ℕ) → is_listed_name (kept_name piece) ≡ is_listed_name piece
is_name-kept_name [] = refl
is_name-kept_name (x ∷ xs) =
    lt-ltb 0 (length (kept_name (x ∷ xs))) (omega (arith, length-take 4097 (x ∷ xs))) ∙ sym (lt-ltb 0 (length (x ∷ xs)) (omega arith))

-- one piece is one request if it is a name, and no request if not
one_piece : (piece : List ℕ) (test : Bool) → is_listed_name piece ≡ test → map listed_name (map kept_name (filter is_listed_name (piece ∷ []))) ≡ requests_of (kept_name piece)
one_piece piece true is =
    ap (λ t. map listed_name (map kept_name (if t then piece ∷ [] else []))) is ∙ sym (ap (λ t. if t then listed_name (kept_name piece) ∷ [] else []) (is_name-kept_name piece ∙ is))
one_piece piece false is =
    ap (λ t. map listed_name (map kept_name (if t then piece ∷ [] else []))) is ∙ sym (ap (λ t. if t then listed_name (kept_name piece) ∷ [] else []) (is_name-kept_name piece ∙ is))

-- no parts, and more parts
pub requests_in-nil : requests_in [] ≡ []
unfolding requests_in
requests_in-nil = refl

pub requests_in-append : (xs ys : List (List ℕ)) → requests_in (xs ++ ys) ≡ requests_in xs ++ requests_in ys
unfolding requests_in
requests_in-append xs ys =
    ap (λ l. map listed_name (map kept_name l)) (filter-append is_listed_name xs ys)
    ∙ ap (map listed_name) (map-append kept_name (filter is_listed_name xs) (filter is_listed_name ys))
    ∙ map-append listed_name (map kept_name (filter is_listed_name xs)) (map kept_name (filter is_listed_name ys))

-- one part gives the same requests as its kept bytes
pub requests_in-one : (part : List ℕ) → requests_in (part ∷ []) ≡ requests_of (kept_name part)
unfolding requests_in
requests_in-one part = one_piece part (is_listed_name part) refl

-- keeping byte by byte is keeping at once
taken_push : (n : ℕ) (bytes more : List ℕ) → take n (take n bytes ++ more) ≡ take n (bytes ++ more)
taken_push n bytes more = elim (cases_Bool (nat_le n (length bytes))) [
  | inl full ↦
      let all : n ≤ length bytes = search (rules, full) in
      let enough : n ≤ length (take n bytes) = omega (arith, length-take-le n bytes all) in
      let few : length (take n bytes) ≤ n = omega (arith, length-take-le n bytes all) in
      take-append-le n (take n bytes) more enough ∙ take_all n (take n bytes) few ∙ sym (take-append-le n bytes more all)
  | inr buffer ↦
      let few : length bytes ≤ n = search (rules, buffer) in
      ap (λ l. take n (l ++ more)) (take_all n bytes few)
]

pub kept_name-push : (piece bytes : List ℕ) → take 4097 (kept_name piece ++ bytes) ≡ kept_name (piece ++ bytes)
kept_name-push piece bytes = taken_push 4097 piece bytes

-- bytes that are cut at the room for them
take_least : (room least : ℕ) (bytes : List ℕ) → least ≡ min (length bytes) room → take least bytes ≡ take room bytes
take_least room least bytes is = elim (cases_Bool (nat_le (length bytes) room)) [
  | inl fits ↦
      let few : length bytes ≤ room = search (rules, fits) in
      take_all least bytes (omega (arith, is, few)) ∙ sym (take_all room bytes few)
  | inr over ↦
      let many : room ≤ length bytes = search (rules, over) in
      let same : least ≡ room = omega (arith, is, many) in
      ap (λ n. take n bytes) same
]

pub taken_within : (n : ℕ) (held bytes : List ℕ) (least : ℕ) → length held ≤ n → least ≡ min (length bytes) (n - length held) → held ++ take least bytes ≡ take n (held ++ bytes)
taken_within n held bytes least few is =
    let room = n - length held in
    let whole : length held + room ≡ n = omega (arith, few) in
    ap (λ l. held ++ l) (take_least room least bytes is) ∙ sym (take-append-add held bytes room) ∙ ap (λ n. take n (held ++ bytes)) whole
