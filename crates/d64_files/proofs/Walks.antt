-- How far a walk along a chain has come.
use Rattle.std.proofs.Common.{◌≡◌, ℕ, ◌+◌, ◌<◌, ◌≤◌, ◌||◌, Bool, true, false, eqb, List, [], ◌∷◌, ◌++◌, length, refl, sym, ap, ap₂, ◌∙◌, subst, inl, inr, arith, append_assoc, append-nil, length-append}
use Rattle.std.specs.List.{list_any, IsDistinct}
use Rattle.std.specs.Ordering.{nat_cmp}
use Rattle.std.specs.Cmp.{nat_cmp_total, nat_eq_equiv, unsigned_tied}
use Rattle.std.specs.FinSet as set
use Rattle.std.specs.FinSet.{contains-empty, contains-insert}
use Rattle.std.proofs.lemmas.Bool.{or_parts, or_from, or_right, or_cases, eq-eqb, ne_eqb, eqb-true, cases_Bool}
use Rattle.std.proofs.lemmas.List.Folds.{list_any-append}
use Rattle.std.proofs.lemmas.Map.Keys.{IsDistinct-cons, IsDistinct-push}
use Rattle.std.proofs.lemmas.Map.Steps.{length-le_from_distinct_below}
use Rattle.d64_files.specs.declared.chain.Link.TheVariants.{End, To, Broken}
use Rattle.d64_files.specs.Chain.{Chain, link_of}
use Rattle.d64_files.proofs.Chains.{continues, chain_before, chain_of_one, no_broken_chain, fresh_start, begins, apart}

-- the blocks of a chain that a walk to its block `last` has left
pub record Remains (image : List (List ℕ)) (last : ℕ) (path blocks : List ℕ) : Type 0 where
  pub rest : List ℕ
  pub is : blocks ≡ path ++ rest
  pub after : Chain image last (last ∷ rest)
  pub fresh : (q : ℕ) → list_any (eqb q) rest ≡ true → list_any (eqb q) path ≡ false

-- a walk has followed `count` links along the path to its block `last`, and its blocks are those
-- that it has seen
pub record Walked (image : List (List ℕ)) (start last count limit : ℕ) (path : List ℕ) (seen : set.FinSet nat_cmp) : Type 0 where
  pub counted : length path ≡ count + 1
  pub distinct : IsDistinct eqb path
  pub members : (q : ℕ) → set.contains seen q ≡ list_any (eqb q) path
  pub below : (q : ℕ) → list_any (eqb q) path ≡ true → q < limit
  pub here : list_any (eqb last) path ≡ true
  pub completes : (rest : List ℕ) → Chain image last (last ∷ rest) → ((q : ℕ) → list_any (eqb q) rest ≡ true → list_any (eqb q) path ≡ false) → Chain image start (path ++ rest)
  pub only : (blocks : List ℕ) → Chain image start blocks → Remains image last path blocks

-- a number is among those of which it is the first
first_is_among : (q : ℕ) (rest : List ℕ) → list_any (eqb q) (q ∷ rest) ≡ true
first_is_among q rest = ap (λ (t : Bool). t || list_any (eqb q) rest) (eq-eqb q q refl)

-- a number that isn't among others differs from those that are
differs : (q k : ℕ) (others : List ℕ) → list_any (eqb q) others ≡ true → list_any (eqb k) others ≡ false → q ≡ k → ⊥
differs q k others found fresh e =
    let f : true ≡ false = sym found ∙ ap (λ (b : ℕ). list_any (eqb b) others) e ∙ fresh in cc

-- no number among others is the one that isn't
others_differ : (q k : ℕ) (others : List ℕ) → list_any (eqb q) others ≡ true → list_any (eqb k) others ≡ false → list_any (eqb q) (k ∷ []) ≡ false
others_differ q k others found fresh = or_from (eqb q k) false (ne_eqb q k (differs q k others found fresh)) refl

-- what remains of a chain before the first link
starts : (image : List (List ℕ)) (start : ℕ) (blocks : List ℕ) → Chain image start blocks → Remains image start (start ∷ []) blocks
starts image start blocks h =
    let b = begins image start blocks h in
    let after : Chain image start (start ∷ b.0) = subst (Chain image start) b.1 h in
    record { rest = b.0; is = b.1; after = after; fresh = λ q found. others_differ q start b.0 found (fresh_start image start b.0 after) }

-- a walk before its first link
pub started : (image : List (List ℕ)) (start limit : ℕ) (seen : set.FinSet nat_cmp) → seen ≡ set.insert set.empty start
    → ((q : ℕ) → set.contains seen q ≡ true → q < limit) → Walked image start start 0 limit (start ∷ []) seen
unfolding IsDistinct
started image start limit seen e below =
    let members : (q : ℕ) → set.contains seen q ≡ list_any (eqb q) (start ∷ []) =
    λ q. ap (λ (s : set.FinSet nat_cmp). set.contains s q) e ∙ contains-insert nat_cmp_total set.empty start q ∙ ap₂ ◌||◌ (unsigned_tied q start) (contains-empty nat_cmp q) in
    record {
      counted = omega arith;
      distinct = IsDistinct-cons eqb start [] tt tt;
      members = members;
      below = λ q found. below q (members q ∙ found);
      here = first_is_among start [];
      completes = λ rest h fresh. h;
      only = λ blocks h. starts image start blocks h;
    }

-- numbers below a limit, no two of them equal, leave room for another one below it
pub room : (path : List ℕ) (next limit : ℕ) → IsDistinct eqb path → ((q : ℕ) → list_any (eqb q) path ≡ true → q < limit)
    → list_any (eqb next) path ≡ false → next < limit → length path < limit
room path next limit distinct below fresh within =
    let longer = length-le_from_distinct_below (next ∷ path) limit (IsDistinct-cons eqb next path (apart next path fresh) distinct) (λ q found.
    elim (or_cases (eqb q next) (list_any (eqb q) path) found) [
      | inl t ↦ subst (λ (b : ℕ). b < limit) (sym (eqb-true q next t)) within
      | inr t ↦ below q t
    ]) in
    omega arith

-- the path's blocks and the next one
among_longer : (path : List ℕ) (next q : ℕ) → list_any (eqb q) (path ++ next ∷ []) ≡ (list_any (eqb q) path || (eqb q next || false))
among_longer path next q = list_any-append (eqb q) path (next ∷ [])

-- the members of the set with the next block are those of the longer path
pub longer_members : (path : List ℕ) (next : ℕ) (seen : set.FinSet nat_cmp) (q : ℕ) → set.contains seen q ≡ list_any (eqb q) path
    → set.contains (set.insert seen next) q ≡ list_any (eqb q) (path ++ next ∷ [])
longer_members path next seen q e =
    contains-insert nat_cmp_total seen next q ∙ ap₂ ◌||◌ (unsigned_tied q next) e ∙ flipped (eqb q next) (list_any (eqb q) path) ∙ sym (among_longer path next q)
  where
    flipped : (a b : Bool) → (a || b) ≡ (b || (a || false))
    flipped true true = refl
    flipped true false = refl
    flipped false true = refl
    flipped false false = refl

-- a chain from the next block completes the longer path
completed : (image : List (List ℕ)) (start last next count limit : ℕ) (path rest : List ℕ) (seen : set.FinSet nat_cmp) → Walked image start last count limit path seen
    → last < length image → link_of image last ≡ To next → list_any (eqb next) path ≡ false → Chain image next (next ∷ rest)
    → ((q : ℕ) → list_any (eqb q) rest ≡ true → list_any (eqb q) (path ++ next ∷ []) ≡ false) → Chain image start ((path ++ next ∷ []) ++ rest)
completed image start last next count limit path rest seen w within link unseen h fresh =
    let apart_from_path : (q : ℕ) → list_any (eqb q) (next ∷ rest) ≡ true → list_any (eqb q) path ≡ false =
    λ q found. elim (or_cases (eqb q next) (list_any (eqb q) rest) found) [
      | inl t ↦ subst (λ (b : ℕ). list_any (eqb b) path ≡ false) (sym (eqb-true q next t)) unseen
      | inr t ↦ (or_parts (list_any (eqb q) path) (eqb q next || false) (sym (among_longer path next q) ∙ fresh q t)).0
    ] in
    let last_fresh : list_any (eqb last) (next ∷ rest) ≡ false =
    elim (cases_Bool (list_any (eqb last) (next ∷ rest))) [
      | inl t ↦ let f : true ≡ false = sym w.here ∙ apart_from_path last t in cc
      | inr t ↦ t
    ] in
    let whole = w.completes (next ∷ rest) (chain_before image last next rest within link h last_fresh) apart_from_path in
    subst (Chain image start) (sym (append_assoc path (next ∷ []) rest)) whole

-- what remains after the next block
remaining : (image : List (List ℕ)) (last next : ℕ) (path blocks : List ℕ) → link_of image last ≡ To next
    → Remains image last path blocks → Remains image next (path ++ next ∷ []) blocks
remaining image last next path blocks link r =
    let k = continues image last next (last ∷ r.rest) link r.after in
    let same : r.rest ≡ next ∷ k.rest = let e = k.is in cc in
    let next_fresh = fresh_start image next k.rest k.after in
    record {
      rest = k.rest;
      is = r.is ∙ ap (λ (bs : List ℕ). path ++ bs) same ∙ sym (append_assoc path (next ∷ []) k.rest);
      after = k.after;
      fresh = λ q found. among_longer path next q
          ∙ or_from (list_any (eqb q) path) (eqb q next || false)
          (r.fresh q (ap (list_any (eqb q)) same ∙ or_right (eqb q next) (list_any (eqb q) k.rest) found))
          (others_differ q next k.rest found next_fresh);
    }

-- a link back to the path leaves no chain
pub no_chain_back : (image : List (List ℕ)) (start last next count limit : ℕ) (path : List ℕ) (seen : set.FinSet nat_cmp) → Walked image start last count limit path seen
    → link_of image last ≡ To next → set.contains seen next ≡ true → (blocks : List ℕ) → Chain image start blocks → ⊥
no_chain_back image start last next count limit path seen w link found blocks h =
    let r = w.only blocks h in
    let k = continues image last next (last ∷ r.rest) link r.after in
    let same : r.rest ≡ next ∷ k.rest = let e = k.is in cc in
    let fresh = r.fresh next (ap (list_any (eqb next)) same ∙ first_is_among next k.rest) in
    let f : true ≡ false = sym found ∙ w.members next ∙ fresh in cc

-- a broken link leaves no chain
pub no_chain_off : (image : List (List ℕ)) (start last count limit : ℕ) (path : List ℕ) (seen : set.FinSet nat_cmp) → Walked image start last count limit path seen
    → link_of image last ≡ Broken → (blocks : List ℕ) → Chain image start blocks → ⊥
no_chain_off image start last count limit path seen w link blocks h =
    let r = w.only blocks h in no_broken_chain image last (last ∷ r.rest) link r.after

-- a link that ends the chain makes the path the chain
pub whole_chain : (image : List (List ℕ)) (start last count limit : ℕ) (path : List ℕ) (seen : set.FinSet nat_cmp) → Walked image start last count limit path seen
    → last < length image → link_of image last ≡ End → Chain image start path
whole_chain image start last count limit path seen w within link =
    subst (Chain image start) (append-nil path) (w.completes [] (chain_of_one image last within link) (λ q found. let f : false ≡ true = found in cc))

-- a path is at most as long as there are blocks
pub path_bounded : (image : List (List ℕ)) (start last count limit : ℕ) (path : List ℕ) (seen : set.FinSet nat_cmp) → Walked image start last count limit path seen → count + 1 ≤ limit
path_bounded image start last count limit path seen w =
    let fits = length-le_from_distinct_below path limit w.distinct w.below in
    let counted = w.counted in omega arith

-- a block that was added is one of the members
pub added_within : (next limit : ℕ) (seen more : set.FinSet nat_cmp) → more ≡ set.insert seen next → ((q : ℕ) → set.contains more q ≡ true → q < limit) → next < limit
added_within next limit seen more e below =
    below next
    (ap (λ (s : set.FinSet nat_cmp). set.contains s next) e
    ∙ contains-insert nat_cmp_total seen next next
    ∙ ap (λ (t : Bool). t || set.contains seen next) (unsigned_tied next next ∙ eq-eqb next next refl))

-- a walk to a block that it hasn't seen has room for the next one
pub has_room : (image : List (List ℕ)) (start last next count limit : ℕ) (path : List ℕ) (seen : set.FinSet nat_cmp) → Walked image start last count limit path seen
    → set.contains seen next ≡ false → next < limit → length path < limit
has_room image start last next count limit path seen w unseen within = room path next limit w.distinct w.below (sym (w.members next) ∙ unseen) within

-- a walk that follows one more link
pub stepped : (image : List (List ℕ)) (start last next count limit : ℕ) (path : List ℕ) (seen more : set.FinSet nat_cmp) → Walked image start last count limit path seen
    → last < length image → link_of image last ≡ To next → set.contains seen next ≡ false → more ≡ set.insert seen next
    → ((q : ℕ) → set.contains more q ≡ true → q < limit) → Walked image start next (count + 1) limit (path ++ next ∷ []) more
stepped image start last next count limit path seen more w within link unseen e below =
    let fresh : list_any (eqb next) path ≡ false = sym (w.members next) ∙ unseen in
    let members : (q : ℕ) → set.contains more q ≡ list_any (eqb q) (path ++ next ∷ []) =
    λ q. ap (λ (s : set.FinSet nat_cmp). set.contains s q) e ∙ longer_members path next seen q (w.members q) in
    let counted = w.counted in
    record {
      counted = omega (arith, length-append path (next ∷ []));
      distinct = IsDistinct-push nat_eq_equiv path next w.distinct fresh;
      members = members;
      below = λ q found. below q (members q ∙ found);
      here = among_longer path next next ∙ or_right (list_any (eqb next) path) (eqb next next || false) (first_is_among next []);
      completes = λ rest h others. completed image start last next count limit path rest seen w within link fresh h others;
      only = λ blocks h. remaining image last next path blocks link (w.only blocks h);
    }
