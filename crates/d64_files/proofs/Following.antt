-- How far a walk has come that follows the links of a chain and remembers no block.
use Rattle.std.proofs.Common.{◌≡◌, ◌≢◌, ℕ, ◌+◌, ◌<◌, ◌≤◌, true, false, eqb, List, [], ◌∷◌, ◌++◌, length, Option, Some, refl, sym, ap, ◌∙◌, subst, inl, inr, arith, append_assoc, length-append, append-nil}
use Rattle.std.specs.List.{list_any}
use Rattle.std.specs.Option.{option_map_or}
use Rattle.std.proofs.lemmas.Bool.{or_cases, eqb-true, cases_Bool}
use Rattle.d64_files.specs.declared.chain.Link.TheVariants.{End, To, Broken}
use Rattle.d64_files.specs.declared.claims.Claims.{Claims}
use Rattle.d64_files.specs.Chain.{Chain, chain, link_of, block_in}
use Rattle.d64_files.specs.Claims.{claims_of}
use Rattle.d64_files.specs.Ownership.{chain_at}
use Rattle.d64_files.proofs.Chains.{begins, bounded, continues, chain_before, chain_of_one, no_broken_chain, unique, chain-is, chain-none}

-- the chain from a block is a part of the chain that holds the block
pub record PartFrom (image : List (List ℕ)) (block : ℕ) (blocks : List ℕ) : Type 0 where
  pub part : List ℕ
  pub chain : Chain image block part
  pub short : length part ≤ length blocks

part_from : (image : List (List ℕ)) (start : ℕ) (blocks : List ℕ) (block : ℕ) → Chain image start blocks → list_any (eqb block) blocks ≡ true
    → PartFrom image block blocks
unfolding Chain
part_from image start [] block h found = absurd h
part_from image start (first ∷ []) block h found =
    elim (or_cases (eqb block first) false found) [
      | inl t ↦
          let same : start ≡ block = sym h.0 ∙ sym (eqb-true block first t) in
          record { part = first ∷ []; chain = subst (λ (b : ℕ). Chain image b (first ∷ [])) same h; short = omega arith }
      | inr f ↦ let e : false ≡ true = f in cc
    ]
part_from image start (first ∷ next ∷ rest) block h found =
    elim (or_cases (eqb block first) (list_any (eqb block) (next ∷ rest)) found) [
      | inl t ↦
          let same : start ≡ block = sym h.0 ∙ sym (eqb-true block first t) in
          record { part = first ∷ next ∷ rest; chain = subst (λ (b : ℕ). Chain image b (first ∷ next ∷ rest)) same h; short = omega arith }
      | inr t ↦ let p = part_from image next (next ∷ rest) block h.3 t in let s = p.short in record { part = p.part; chain = p.chain; short = omega arith }
    ]

-- a block that is linked to a chain isn't in it: the chain from the block would be a part of the
-- chain, and longer
linked_apart : (image : List (List ℕ)) (block next : ℕ) (blocks : List ℕ) → link_of image block ≡ To next → Chain image next blocks
    → list_any (eqb block) blocks ≡ true → ⊥
linked_apart image block next blocks link h found =
    let p = part_from image next blocks block h found in
    let k = continues image block next p.part link p.chain in
    let same : next ∷ k.rest ≡ blocks = unique image next (next ∷ k.rest) blocks k.after h in
    let long = ap length same in
    let longer = ap length k.is in
    let s = p.short in omega arith

-- a block before the chain to which it is linked
linked_before : (image : List (List ℕ)) (block next : ℕ) (blocks : List ℕ) → block < length image → link_of image block ≡ To next
    → Chain image next blocks → Chain image block (block ∷ blocks)
linked_before image block next blocks within link h =
    let b = begins image next blocks h in
    let after : Chain image next (next ∷ b.0) = subst (Chain image next) b.1 h in
    let fresh : list_any (eqb block) (next ∷ b.0) ≡ false =
    elim (cases_Bool (list_any (eqb block) (next ∷ b.0))) [
      | inl t ↦ absurd (linked_apart image block next (next ∷ b.0) link after t)
      | inr f ↦ f
    ] in
    subst (λ (bs : List ℕ). Chain image block (block ∷ bs)) (sym b.1) (chain_before image block next b.0 within link after fresh)

-- the blocks of a chain from the block to which a walk has come
pub record Left (image : List (List ℕ)) (last : ℕ) (path blocks : List ℕ) : Type 0 where
  pub rest : List ℕ
  pub is : blocks ≡ path ++ rest
  pub chain : Chain image last rest

-- a walk has followed `count` links from the start to the block `last`, and claimed the blocks
-- before that
pub record Followed (image : List (List ℕ)) (start last count : ℕ) (old new : Claims) : Type 0 where
  pub path : List ℕ
  pub counted : length path ≡ count
  pub completes : (rest : List ℕ) → Chain image last rest → Chain image start (path ++ rest)
  pub only : (blocks : List ℕ) → Chain image start blocks → Left image last path blocks
  pub claimed : (before : List ℕ) → old ≡ claims_of before → new ≡ claims_of (before ++ path)

-- a walk before its first link
pub at_start : (image : List (List ℕ)) (start : ℕ) (claims : Claims) → Followed image start start 0 claims claims
at_start image start claims = record {
  path = [];
  counted = refl;
  completes = λ rest h. h;
  only = λ blocks h. record { rest = blocks; is = refl; chain = h };
  claimed = λ before is. is ∙ ap claims_of (sym (append-nil before));
}

-- the block is claimed to which a walk has come
pub claimed_there : (image : List (List ℕ)) (start last count : ℕ) (old new more : Claims) (w : Followed image start last count old new)
    → ((before : List ℕ) → new ≡ claims_of before → more ≡ claims_of (before ++ last ∷ []))
    → (before : List ℕ) → old ≡ claims_of before → more ≡ claims_of (before ++ (w.path ++ last ∷ []))
claimed_there image start last count old new more w claim before is =
    claim (before ++ w.path) (w.claimed before is) ∙ ap claims_of (append_assoc before w.path (last ∷ []))

-- a walk that follows one more link
pub one_more : (image : List (List ℕ)) (start last next count : ℕ) (old new more : Claims) → Followed image start last count old new
    → last < length image → link_of image last ≡ To next → ((before : List ℕ) → new ≡ claims_of before → more ≡ claims_of (before ++ last ∷ []))
    → Followed image start next (count + 1) old more
one_more image start last next count old new more w within link claim =
    let counted = w.counted in
    record {
      path = w.path ++ last ∷ [];
      counted = omega (arith, length-append w.path (last ∷ []));
      completes = λ rest h.
          subst (Chain image start) (sym (append_assoc w.path (last ∷ []) rest))
          (w.completes (last ∷ rest) (linked_before image last next rest within link h));
      only = λ blocks h.
          let left = w.only blocks h in
          let k = continues image last next left.rest link left.chain in
          record {
            rest = next ∷ k.rest;
            is = left.is ∙ ap (λ (bs : List ℕ). w.path ++ bs) k.is ∙ sym (append_assoc w.path (last ∷ []) (next ∷ k.rest));
            chain = k.after;
          };
      claimed = claimed_there image start last count old new more w claim;
    }

-- the chain from a track and a sector is the one from their block
at_block : (image : List (List ℕ)) (root : ℕ × ℕ) (start : ℕ) → Some start ≡ block_in image root.0 root.1 → chain_at image root ≡ chain image start
at_block image root start e = sym (ap (λ (b : Option ℕ). option_map_or (chain image) b []) e)

-- a link that ends the chain makes the path and the last block the chain
pub chain_at-followed : (image : List (List ℕ)) (root : ℕ × ℕ) (start last count : ℕ) (old new : Claims) → Some start ≡ block_in image root.0 root.1
    → (w : Followed image start last count old new) → last < length image → link_of image last ≡ End → chain_at image root ≡ w.path ++ last ∷ []
chain_at-followed image root start last count old new root_is w within link =
    at_block image root start root_is ∙ chain-is image start (w.path ++ last ∷ []) (w.completes (last ∷ []) (chain_of_one image last within link))

-- a broken link leaves no chain
pub chain_at-broken : (image : List (List ℕ)) (root : ℕ × ℕ) (start last count : ℕ) (old new : Claims) → Some start ≡ block_in image root.0 root.1
    → Followed image start last count old new → link_of image last ≡ Broken → chain_at image root ≡ []
chain_at-broken image root start last count old new root_is w link =
    at_block image root start root_is
    ∙ chain-none image start (λ blocks h. let left = w.only blocks h in no_broken_chain image last left.rest link left.chain)

-- a walk that has followed as many links as the image has blocks, and come to no end, leaves no
-- chain
pub chain_at-endless : (image : List (List ℕ)) (root : ℕ × ℕ) (start last count : ℕ) (old new : Claims) → Some start ≡ block_in image root.0 root.1
    → Followed image start last count old new → length image ≤ count → chain_at image root ≡ []
chain_at-endless image root start last count old new root_is w long =
    at_block image root start root_is
    ∙ chain-none image start (λ blocks h.
    let left = w.only blocks h in
    let b = begins image last left.rest left.chain in
    let some = ap length b.1 in
    let whole = ap length left.is in
    let fits = bounded image start blocks h in
    let counted = w.counted in
    omega (arith, length-append w.path left.rest))

-- a chain that was followed to its end is one
pub chain_at-some : (image : List (List ℕ)) (root : ℕ × ℕ) (path : List ℕ) (last : ℕ) → chain_at image root ≡ path ++ last ∷ [] → chain_at image root ≢ []
chain_at-some image root path last is none =
    let e = ap length (sym is ∙ none) in omega (arith, length-append path (last ∷ []))
