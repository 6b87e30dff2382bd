-- What follows from the definition of a chain.
use Rattle.std.proofs.Common.{◌≡◌, ◌≢◌, ℕ, zero, suc, ◌<◌, ◌≤◌, ◌||◌, Bool, true, false, cond, eqb, ltb, List, [], ◌∷◌, length, get_or, Option, Some, None, refl, sym, ap, ap₂, ◌∙◌, subst, inl, inr, arith}
use Rattle.std.specs.Prelude.{All, Contains, ◌↔◌}
use Rattle.std.specs.List.{list_any, IsDistinct, AllByRecursion}
use Rattle.std.specs.Option.{option_and_then, option_map_or}
use Rattle.std.proofs.lemmas.Bool.{or_parts, or_cases, cases_lt, lt-ltb, le-ltb, eqb-true, eq-eqb}
use Rattle.std.proofs.lemmas.Bool.Decides.{eqb_tells}
use Rattle.std.proofs.lemmas.List.Elements.{All-nil}
use Rattle.std.proofs.lemmas.List.Folds.{list_any_at, Any-from_list_any}
use Rattle.std.proofs.lemmas.Map.Keys.{IsDistinct-cons}
use Rattle.std.proofs.lemmas.Map.Steps.{length-le_from_distinct_below}
use Rattle.d64_image.specs.Block.{block_of}
use Rattle.d64_files.specs.declared.chain.Link.{Link}
use Rattle.d64_files.specs.declared.chain.Link.TheVariants.{End, To, Broken}
use Rattle.d64_files.specs.ChainLaws.{LinkedAlike}
use Rattle.d64_files.specs.Chain.{Chain, chain, chain_by, chain_behind, link_at, link_to, link_of, led_by, block_in, held_block, chain_from, LieIn}

-- a chain begins with the block from which it leads
pub begins : (image : List (List ℕ)) (start : ℕ) (blocks : List ℕ) → Chain image start blocks → (rest : List ℕ) × (blocks ≡ start ∷ rest)
unfolding Chain
begins image start [] h = absurd h
begins image start (block ∷ []) h = ([], ap (λ (b : ℕ). b ∷ []) h.0)
begins image start (block ∷ next ∷ rest) h = (next ∷ rest, ap (λ (b : ℕ). b ∷ next ∷ rest) h.0)

-- the image has that block
pub starts_within : (image : List (List ℕ)) (start : ℕ) (blocks : List ℕ) → Chain image start blocks → start < length image
unfolding Chain
starts_within image start [] h = absurd h
starts_within image start (block ∷ []) h = h.1
starts_within image start (block ∷ next ∷ rest) h = h.1

-- a block whose link ends the chain is a chain
pub chain_of_one : (image : List (List ℕ)) (start : ℕ) → start < length image → link_of image start ≡ End → Chain image start (start ∷ [])
unfolding Chain
chain_of_one image start within ends = (refl, within, ends)

-- a block before a chain that doesn't hold it
pub chain_before : (image : List (List ℕ)) (start next : ℕ) (rest : List ℕ) → start < length image → link_of image start ≡ To next
    → Chain image next (next ∷ rest) → list_any (eqb start) (next ∷ rest) ≡ false → Chain image start (start ∷ next ∷ rest)
unfolding Chain
chain_before image start next rest within link h fresh = (refl, within, link, h, fresh)

-- there is no chain from a block with a broken link
pub no_broken_chain : (image : List (List ℕ)) (start : ℕ) (blocks : List ℕ) → link_of image start ≡ Broken → Chain image start blocks → ⊥
unfolding Chain
no_broken_chain image start [] link h = absurd h
no_broken_chain image start (block ∷ []) link h = let e : End ≡ Broken = sym h.2 ∙ link in cc
no_broken_chain image start (block ∷ next ∷ rest) link h = let e : To next ≡ Broken = sym h.2 ∙ link in cc

-- a chain at whose start the link ends it
pub ended : (image : List (List ℕ)) (start : ℕ) (blocks : List ℕ) → link_of image start ≡ End → Chain image start blocks → blocks ≡ start ∷ []
unfolding Chain
ended image start [] link h = absurd h
ended image start (block ∷ []) link h = ap (λ (b : ℕ). b ∷ []) h.0
ended image start (block ∷ next ∷ rest) link h = let e : To next ≡ End = sym h.2 ∙ link in cc

-- what a chain is at whose start the link leads to a block
pub record Continues (image : List (List ℕ)) (start next : ℕ) (blocks : List ℕ) : Type 0 where
  pub rest : List ℕ
  pub is : blocks ≡ start ∷ next ∷ rest
  pub after : Chain image next (next ∷ rest)
  pub fresh : list_any (eqb start) (next ∷ rest) ≡ false

pub continues : (image : List (List ℕ)) (start next : ℕ) (blocks : List ℕ) → link_of image start ≡ To next → Chain image start blocks → Continues image start next blocks
unfolding Chain
continues image start next [] link h = absurd h
continues image start next (block ∷ []) link h = let e : End ≡ To next = sym h.2 ∙ link in cc
continues image start next (block ∷ other ∷ rest) link h =
    let e : To other ≡ To next = sym h.2 ∙ link in
    let same : other ≡ next = cc in
    record {
      rest = rest;
      is = ap₂ (λ (a b : ℕ). a ∷ b ∷ rest) h.0 same;
      after = subst (λ (n : ℕ). Chain image n (n ∷ rest)) same h.3;
      fresh = subst (λ (n : ℕ). list_any (eqb start) (n ∷ rest) ≡ false) same h.4;
    }

-- there is at most one chain from a block
pub unique : (image : List (List ℕ)) (start : ℕ) (blocks others : List ℕ) → Chain image start blocks → Chain image start others → blocks ≡ others
unfolding Chain
unique image start [] others h g = absurd h
unique image start (block ∷ []) others h g = let e = ended image start others h.2 g in ap (λ (b : ℕ). b ∷ []) h.0 ∙ sym e
unique image start (block ∷ next ∷ rest) others h g =
    let k = continues image start next others h.2 g in
    let e = unique image next (next ∷ rest) (next ∷ k.rest) h.3 k.after in
    ap₂ (λ (b : ℕ) (bs : List ℕ). b ∷ bs) h.0 e ∙ sym k.is

-- each block of a chain is one of the image
pub within : (image : List (List ℕ)) (start : ℕ) (blocks : List ℕ) → Chain image start blocks → (q : ℕ) → list_any (eqb q) blocks ≡ true → q < length image
unfolding Chain
within image start [] h q found = absurd h
within image start (block ∷ []) h q found =
    elim (eqb_tells q block) [
      | inl e ↦ let same : q ≡ start = e.1 ∙ h.0 in subst (λ (b : ℕ). b < length image) (sym same) h.1
      | inr e ↦ let a : (eqb q block || false) ≡ true = found in elim (or_cases (eqb q block) false a) [ inl t ↦ let f : true ≡ false = sym t ∙ e.0 in cc | inr t ↦ cc ]
    ]
within image start (block ∷ next ∷ rest) h q found =
    elim (or_cases (eqb q block) (list_any (eqb q) (next ∷ rest)) found) [
      | inl t ↦ elim (eqb_tells q block) [
        | inl e ↦ let same : q ≡ start = e.1 ∙ h.0 in subst (λ (b : ℕ). b < length image) (sym same) h.1
        | inr e ↦ let f : true ≡ false = sym t ∙ e.0 in cc
      ]
      | inr t ↦ within image next (next ∷ rest) h.3 q t
    ]

-- a block that isn't among others differs from each
pub apart : (block : ℕ) (others : List ℕ) → list_any (eqb block) others ≡ false → AllByRecursion (λ other. eqb block other ≡ false) others
apart block [] h = tt
apart block (other ∷ others) h = let p = or_parts (eqb block other) (list_any (eqb block) others) h in (p.0, apart block others p.1)

-- no block comes twice in a chain
pub distinct : (image : List (List ℕ)) (start : ℕ) (blocks : List ℕ) → Chain image start blocks → IsDistinct eqb blocks
unfolding Chain IsDistinct
distinct image start [] h = absurd h
distinct image start (block ∷ []) h = IsDistinct-cons eqb block [] tt tt
distinct image start (block ∷ next ∷ rest) h =
    let fresh = subst (λ (b : ℕ). list_any (eqb b) (next ∷ rest) ≡ false) (sym h.0) h.4 in
    IsDistinct-cons eqb block (next ∷ rest) (apart block (next ∷ rest) fresh) (distinct image next (next ∷ rest) h.3)

-- a chain is at most as long as the image has blocks
pub bounded : (image : List (List ℕ)) (start : ℕ) (blocks : List ℕ) → Chain image start blocks → length blocks ≤ length image
bounded image start blocks h = length-le_from_distinct_below blocks (length image) (distinct image start blocks h) (within image start blocks h)

-- the function follows a chain
follows_chain : (links : ℕ) (image : List (List ℕ)) (start : ℕ) (blocks : List ℕ) → Chain image start blocks → length blocks ≤ suc links
    → chain_by links image start (link_of image start) ≡ blocks
unfolding Chain chain_by
follows_chain links image start [] h short = absurd h
follows_chain links image start (block ∷ []) h short = subst (λ (link : Link). chain_by links image start link ≡ block ∷ []) (sym h.2) (ap (λ (b : ℕ). b ∷ []) (sym h.0))
follows_chain zero image start (block ∷ next ∷ rest) h short = absurd (omega arith)
follows_chain (suc links) image start (block ∷ next ∷ rest) h short =
    let e : chain_by links image next (link_of image next) ≡ next ∷ rest = follows_chain links image next (next ∷ rest) h.3 (omega arith) in
    let joined : chain_behind start (next ∷ rest) ≡ start ∷ next ∷ rest = ap (λ (t : Bool). cond t [] (start ∷ next ∷ rest)) h.4 in
    subst (λ (link : Link). chain_by (suc links) image start link ≡ block ∷ next ∷ rest) (sym h.2)
    (ap (chain_behind start) e ∙ joined ∙ ap (λ (b : ℕ). b ∷ next ∷ rest) (sym h.0))

-- a block that the image has is one of it
held_within : (image : List (List ℕ)) (block next : ℕ) → link_to (held_block image block) ≡ To next → next < length image
held_within image block next e =
    elim (cases_lt block (length image)) [
      | inl below ↦
          let is : link_to (held_block image block) ≡ To block = ap (λ (t : Bool). link_to (cond t (Some block) None)) (lt-ltb block (length image) below) in
          let both : To block ≡ To next = sym is ∙ e in
          let same : block ≡ next = cc in subst (λ (b : ℕ). b < length image) same below
      | inr past ↦
          let is : link_to (held_block image block) ≡ Broken = ap (λ (t : Bool). link_to (cond t (Some block) None)) (le-ltb block (length image) past) in
          let both : Broken ≡ To next = sym is ∙ e in cc
    ]

-- a link leads only to blocks of the image
leads_within : (image : List (List ℕ)) (ends : Bool) (block : Option ℕ) (next : ℕ) → cond ends End (link_to (option_and_then (held_block image) block)) ≡ To next → next < length image
leads_within image true block next e = cc
leads_within image false None next e = cc
leads_within image false (Some block) next e = held_within image block next e

pub linked_within : (image : List (List ℕ)) (block next : ℕ) → link_of image block ≡ To next → next < length image
unfolding led_by block_in
linked_within image block next e =
    leads_within image (eqb (link_at image block).0 0) (block_of (link_at image block).0 (link_at image block).1) next e

-- a link with track 0 ends the chain
pub ends_at : (image : List (List ℕ)) (block : ℕ) → eqb (link_at image block).0 0 ≡ true → link_of image block ≡ End
unfolding led_by
ends_at image block last = ap (λ (t : Bool). cond t End (link_to (block_in image (link_at image block).0 (link_at image block).1))) last

-- every other link leads to the block of its pair
pub leads_to : (image : List (List ℕ)) (block : ℕ) (next : Option ℕ) → eqb (link_at image block).0 0 ≡ false
    → block_in image (link_at image block).0 (link_at image block).1 ≡ next → link_of image block ≡ link_to next
unfolding led_by
leads_to image block next on e =
    ap (λ (t : Bool). cond t End (link_to (block_in image (link_at image block).0 (link_at image block).1))) on ∙ ap link_to e

-- the block of a track and a sector is one of the image
pub block_in-within : (image : List (List ℕ)) (track sector block : ℕ) → block_in image track sector ≡ Some block → block < length image
unfolding block_in
block_in-within image track sector block e = leads_within image false (block_of track sector) block (ap link_to e)

-- a block that was put before a chain
joins : (image : List (List ℕ)) (start next : ℕ) (rest blocks : List ℕ) → start < length image → link_of image start ≡ To next
    → (rest ≢ [] → Chain image next rest) → chain_behind start rest ≡ blocks → blocks ≢ [] → Chain image start blocks
joins image start next [] blocks inside link chained e some = absurd (some (sym e))
joins image start next (other ∷ rest) blocks inside link chained e some =
    let h : Chain image next (other ∷ rest) = chained (λ (f : other ∷ rest ≡ []). cc) in
    let b = begins image next (other ∷ rest) h in
    let same : other ≡ next = let f = b.1 in cc in
    let here : Chain image next (next ∷ rest) = subst (λ (n : ℕ). Chain image next (n ∷ rest)) same h in
    by_test image start next rest blocks inside link here (ap (λ (n : ℕ). chain_behind start (n ∷ rest)) (sym same) ∙ e) some (list_any (eqb start) (next ∷ rest)) refl
  where
    by_test : (image : List (List ℕ)) (start next : ℕ) (rest blocks : List ℕ) → start < length image → link_of image start ≡ To next
        → Chain image next (next ∷ rest) → chain_behind start (next ∷ rest) ≡ blocks → blocks ≢ []
        → (found : Bool) → list_any (eqb start) (next ∷ rest) ≡ found → Chain image start blocks
    by_test image start next rest blocks inside link h e some true t =
        absurd (some (sym e ∙ ap (λ (b : Bool). cond b [] (start ∷ next ∷ rest)) t))
    by_test image start next rest blocks inside link h e some false t =
        let is : start ∷ next ∷ rest ≡ blocks = sym (ap (λ (b : Bool). cond b [] (start ∷ next ∷ rest)) t) ∙ e in
        subst (Chain image start) is (chain_before image start next rest inside link h t)

-- what the function follows is a chain
chain_followed : (links : ℕ) (image : List (List ℕ)) (start : ℕ) (link : Link) (blocks : List ℕ) → start < length image → link_of image start ≡ link
    → chain_by links image start link ≡ blocks → blocks ≢ [] → Chain image start blocks
unfolding chain_by
chain_followed links image start End blocks inside link e some = subst (Chain image start) e (chain_of_one image start inside link)
chain_followed links image start Broken blocks inside link e some = absurd (some (sym e))
chain_followed zero image start (To next) blocks inside link e some = absurd (some (sym e))
chain_followed (suc links) image start (To next) blocks inside link e some =
    let rest : List ℕ = chain_by links image next (link_of image next) in
    joins image start next rest blocks inside link
    (λ some. chain_followed links image next (link_of image next) rest (linked_within image start next link) refl refl some) e some

-- a chain is what the function gives
pub chain-is : (image : List (List ℕ)) (start : ℕ) (blocks : List ℕ) → Chain image start blocks → chain image start ≡ blocks
unfolding chain
chain-is image start blocks h =
    let inside = starts_within image start blocks h in
    let fits = bounded image start blocks h in
    ap (λ (t : Bool). cond t (chain_by (length image) image start (link_of image start)) []) (lt-ltb start (length image) inside)
    ∙ follows_chain (length image) image start blocks h (omega arith)

-- a chain is not empty
pub not_empty : (image : List (List ℕ)) (start : ℕ) (blocks : List ℕ) → Chain image start blocks → blocks ≢ []
not_empty image start blocks h e = let b = begins image start blocks h in let f : start ∷ b.0 ≡ [] = sym b.1 ∙ e in cc

-- what the function gives is a chain
pub is_chain : (image : List (List ℕ)) (start : ℕ) (blocks : List ℕ) → chain image start ≡ blocks → blocks ≢ [] → Chain image start blocks
unfolding chain
is_chain image start blocks e some =
    elim (cases_lt start (length image)) [
      | inl inside ↦
          let is = ap (λ (t : Bool). cond t (chain_by (length image) image start (link_of image start)) []) (lt-ltb start (length image) inside) in
          chain_followed (length image) image start (link_of image start) blocks inside refl (sym is ∙ e) some
      | inr past ↦
          let is = ap (λ (t : Bool). cond t (chain_by (length image) image start (link_of image start)) []) (le-ltb start (length image) past) in
          absurd (some (sym e ∙ is))
    ]

-- if there is no chain the function gives the empty list
pub chain-none : (image : List (List ℕ)) (start : ℕ) → ((blocks : List ℕ) → Chain image start blocks → ⊥) → chain image start ≡ []
chain-none image start none = by_list (chain image start) (λ some. none (chain image start) (is_chain image start (chain image start) refl some))
  where
    by_list : (blocks : List ℕ) → (blocks ≢ [] → ⊥) → blocks ≡ []
    by_list [] h = refl
    by_list (block ∷ blocks) h = absurd (h (λ (e : block ∷ blocks ≡ []). cc))

-- images of the same length lead to the same block by a link
pub led_by-alike : (image other : List (List ℕ)) (link : ℕ × ℕ) → length other ≡ length image → led_by other link ≡ led_by image link
unfolding led_by block_in
led_by-alike image other link long =
    ap (λ (n : ℕ). cond (eqb link.0 0) End (link_to (option_and_then (λ block. cond (ltb block n) (Some block) None) (block_of link.0 link.1)))) long

-- a chain needs only its own links
pub kept : (image other : List (List ℕ)) (start : ℕ) (blocks : List ℕ) → Chain image start blocks → length other ≡ length image
    → ((q : ℕ) → list_any (eqb q) blocks ≡ true → link_at other q ≡ link_at image q) → Chain other start blocks
unfolding Chain
kept image other start [] h long alike = absurd h
kept image other start (block ∷ []) h long alike =
    let e : link_at other start ≡ link_at image start = alike start (ap (λ (t : Bool). t || false) (eq-eqb start block (sym h.0))) in
    (h.0, subst (λ (n : ℕ). start < n) (sym long) h.1, ap (led_by other) e ∙ led_by-alike image other (link_at image start) long ∙ h.2)
kept image other start (block ∷ next ∷ rest) h long alike =
    let e : link_at other start ≡ link_at image start = alike start (ap (λ (t : Bool). t || list_any (eqb start) (next ∷ rest)) (eq-eqb start block (sym h.0))) in (
      h.0,
      subst (λ (n : ℕ). start < n) (sym long) h.1,
      ap (led_by other) e ∙ led_by-alike image other (link_at image start) long ∙ h.2,
      kept image other next (next ∷ rest) h.3 long (λ q found. alike q (or_true (eqb q block) (list_any (eqb q) (next ∷ rest)) found)),
      h.4,
    )
  where
    or_true : (a b : Bool) → b ≡ true → (a || b) ≡ true
    or_true true b e = refl
    or_true false b e = e

-- the block from which a chain leads comes no second time
pub fresh_start : (image : List (List ℕ)) (start : ℕ) (rest : List ℕ) → Chain image start (start ∷ rest) → list_any (eqb start) rest ≡ false
unfolding Chain
fresh_start image start [] h = refl
fresh_start image start (next ∷ rest) h = h.4

-- each block of a chain, by its place, is one of the image
pub all_within : (image : List (List ℕ)) (start : ℕ) (blocks : List ℕ) → Chain image start blocks → All (λ block. block < length image) blocks
all_within image start blocks h k d inside =
    within image start blocks h (get_or blocks k d) (list_any_at (eqb (get_or blocks k d)) blocks k d inside (eq-eqb (get_or blocks k d) (get_or blocks k d) refl))

-- an element of a list is at some place of it
lies : (q : ℕ) (others : List ℕ) → list_any (eqb q) others ≡ true → Contains others q
lies q others found =
    let p = Any-from_list_any (eqb q) others found in
    let same : q ≡ p.1 = eqb-true q p.1 p.4 in
    (p.0, p.2, subst (λ (b : ℕ). get_or others p.0 b ≡ b) (sym same) p.3)

-- a chain needs only the links of its blocks, by their places
pub kept_by_blocks : (image other : List (List ℕ)) (start : ℕ) (blocks : List ℕ) → Chain image start blocks → length other ≡ length image
    → LinkedAlike image other blocks → Chain other start blocks
kept_by_blocks image other start blocks h long alike = kept image other start blocks h long (λ q found. alike q (lies q blocks found))

-- a walk that says whether it found the chain says whether there is one
pub exists : (image : List (List ℕ)) (start : ℕ) (found : Bool) (blocks : List ℕ) → (found ≡ true → Chain image start blocks)
    → (found ≡ false → (others : List ℕ) → Chain image start others → ⊥) → (found ≡ true) ↔ (chain image start ≢ [])
exists image start false blocks h none = (λ (s : false ≡ true). cc, λ some. absurd (some (chain-none image start (none refl))))
exists image start true blocks h none =
    (λ _. subst (λ (bs : List ℕ). bs ≢ []) (sym (chain-is image start blocks (h refl))) (not_empty image start blocks (h refl)), λ _. refl)

-- the image has each block of its chains
chain-lies : (image : List (List ℕ)) (start : ℕ) (blocks : List ℕ) → chain image start ≡ blocks → LieIn image blocks
chain-lies image start [] e = All-nil (λ (b : ℕ). b < length image)
chain-lies image start (block ∷ rest) e = all_within image start (block ∷ rest) (is_chain image start (block ∷ rest) e (λ f. absurd (cc)))

any_chain-lies : (image : List (List ℕ)) (start : Option ℕ) → LieIn image (option_map_or (chain image) start [])
any_chain-lies image None = All-nil (λ (b : ℕ). b < length image)
any_chain-lies image (Some start) = chain-lies image start (chain image start) refl

pub chain_from-lies : (image : List (List ℕ)) (track sector : ℕ) → LieIn image (chain_from image track sector)
chain_from-lies image track sector = any_chain-lies image (block_in image track sector)
