use Rattle.std.proofs.Common.{◌≡◌, ℕ, ◌+◌, ◌<◌, true, false, eqb, List, [], ◌∷◌, ◌++◌, length, get_or, Some, refl, sym, ap, ◌∙◌, subst, arith, length-append}
use Rattle.std.specs.List.{list_any}
use Rattle.std.specs.Ordering.{nat_cmp}
use Rattle.std.specs.FinSet as set
use Rattle.std.specs.FinSet.{contains-empty}
use Rattle.std.proofs.lemmas.Bool.{eq-eqb, ne_eqb}
use Rattle.std.proofs.lemmas.Map.Steps.{length-le_from_distinct_below}
use Rattle.d64_image.specs.declared.block.TheConstants.{BLOCKS}
use Rattle.d64_files.specs.Chain.{LieIn, link_at}
use Rattle.d64_files.proofs.Walks.{room, longer_members, added_within}
use Rattle.d64_survey.specs.Way.{way, way_on, block_at}
use Rattle.d64_survey.specs.declared.way_end.WayEnd.{WayEnd}
use Rattle.d64_survey.specs.declared.way_end.WayEnd.TheVariants.{End}
use Rattle.d64_survey.proofs.Steps.{from_block, off, loops, fresh_step, ends, goes_on}
use Rattle.d64_survey.proofs.Trails.{Trail, Walking, begun, added, some_left, lies}
use Rattle.d64_survey.proofs.walking.walk.Goals as goal

-- a way before its first block
starts : (image : List (List ℕ)) (pair : ℕ × ℕ) (walked : List ℕ) (seen : set.FinSet nat_cmp) → walked ≡ [] → seen ≡ set.empty → Walking image pair walked seen pair
unfolding way
starts image pair walked seen none empty = subst (λ (w : List ℕ). Walking image pair w seen pair) (sym none) (record {
  left = length image;
  trail = begun image;
  members = λ q. ap (λ (s : set.FinSet nat_cmp). set.contains s q) empty ∙ contains-empty nat_cmp q;
  is = refl;
})

pub loop-init : goal.loop-init
loop-init c = record {
  walking = starts c.args.image.now _ c.clear.new.self c.empty-seen.result c.clear.ensures c.empty-seen.ensures.value;
  below = c.empty-seen.ensures.blocks;
  count = ap length c.clear.ensures;
}

pub returns-in-None-clause-way : goal.returns-in-None-clause-way
returns-in-None-clause-way c =
    let w = c.loop.invariant.walking in
    let pair : ℕ × ℕ = (c.loop.at_track, c.loop.at_sector) in
    sym (w.is ∙ ap (way_on w.left c.args.image.now c.loop.blocks pair) (sym c.in-None.ensures.block) ∙ off w.left c.args.image.now c.loop.blocks pair)

pub returns-in-None-clause-held : goal.returns-in-None-clause-held
returns-in-None-clause-held c = let w = c.loop.invariant.walking in lies _ _ _ w.trail

pub returns-then-has-clause-way : goal.returns-then-has-clause-way
returns-then-has-clause-way c =
    let w = c.loop.invariant.walking in
    let pair : ℕ × ℕ = (c.loop.at_track, c.loop.at_sector) in
    let found = sym (w.members c.in-Some.block) ∙ sym c.has.ensures.value ∙ c.if-has.true in
    sym
    (w.is ∙ ap (way_on w.left c.args.image.now c.loop.blocks pair) (sym c.in-Some.ensures.block) ∙ loops w.left c.args.image.now c.loop.blocks pair c.in-Some.block found)

pub returns-then-has-clause-held : goal.returns-then-has-clause-held
returns-then-has-clause-held c = let w = c.loop.invariant.walking in lies _ _ _ w.trail

pub push-requires : goal.push-requires
push-requires c =
    let w = c.loop.invariant.walking in
    let block : c.in-Some.block < BLOCKS = added_within c.in-Some.block BLOCKS c.loop.seen c.add.new.self c.add.ensures.value c.add.ensures.blocks in
    room c.loop.blocks c.in-Some.block BLOCKS w.trail.distinct (λ q found. c.loop.invariant.below q (w.members q ∙ found))
    (sym (w.members c.in-Some.block) ∙ sym c.has.ensures.value ∙ c.if-has.false) block

-- the way goes on from the block
record Stepped (image : List (List ℕ)) (first : ℕ × ℕ) (walked : List ℕ) (block : ℕ) : Type 0 where
  left : ℕ
  trail : Trail image left (walked ++ block ∷ [])
  is : way image first ≡ from_block left image walked block

step : (image : List (List ℕ)) (first : ℕ × ℕ) (walked : List ℕ) (seen : set.FinSet nat_cmp) (pair : ℕ × ℕ) (block : ℕ) → Walking image first walked seen pair
    → Some block ≡ block_at image pair → list_any (eqb block) walked ≡ false → block < length image → Stepped image first walked block
step image first walked seen pair block w found unseen inside =
    let some = some_left image w.left walked block w.trail unseen inside in
    record {
      left = some.0;
      trail = added image some.0 walked block (subst (λ (n : ℕ). Trail image n walked) some.1 w.trail) unseen inside;
      is = w.is
          ∙ ap (way_on w.left image walked pair) (sym found)
          ∙ ap (λ (n : ℕ). way_on n image walked pair (Some block)) some.1
          ∙ fresh_step some.0 image walked pair block unseen;
    }

-- a way that ends after its last block
abbrev ended : List ℕ → List ℕ × WayEnd
ended blocks = (blocks, End)

pub returns-then-bytes-eq0-clause-way : goal.returns-then-bytes-eq0-clause-way
returns-then-bytes-eq0-clause-way c =
    let image = c.args.image.now in
    let v = c.loop.invariant.walking in
    let s = step _ _ _ _ _ _ v c.in-Some.ensures.block (sym (v.members c.in-Some.block) ∙ sym c.has.ensures.value ∙ c.if-has.false) c.in-Some.ensures.held in
    let last : eqb (link_at image c.in-Some.block).0 0 ≡ true = eq-eqb _ _ (ap (λ (bytes : List ℕ). get_or bytes 0 0) (sym c.sector-bytes.ensures.value) ∙ c.if-bytes-eq0.true) in
    ap (λ (bs : List ℕ). ended bs) c.push.ensures ∙ sym (s.is ∙ ends s.left image c.loop.blocks c.in-Some.block last)

pub returns-then-bytes-eq0-clause-held : goal.returns-then-bytes-eq0-clause-held
returns-then-bytes-eq0-clause-held c =
    let v = c.loop.invariant.walking in
    let s = step _ _ _ _ _ _ v c.in-Some.ensures.block (sym (v.members c.in-Some.block) ∙ sym c.has.ensures.value ∙ c.if-has.false) c.in-Some.ensures.held in subst (LieIn c.args.image.now) (sym c.push.ensures) (lies _ _ _ s.trail)

-- the link in a block's bytes
abbrev the_link : List ℕ → ℕ × ℕ
the_link bytes = (get_or bytes 0 0, get_or bytes 1 0)

pub loop-preserved : goal.loop-preserved
loop-preserved c =
    let image = c.args.image.now in
    let v = c.loop.invariant.walking in
    let s = step _ _ _ _ _ _ v c.in-Some.ensures.block (sym (v.members c.in-Some.block) ∙ sym c.has.ensures.value ∙ c.if-has.false) c.in-Some.ensures.held in
    let block = c.in-Some.block in
    let bytes = c.sector-bytes.result.now in
    let here : ℕ × ℕ = (get_or bytes 0 0, get_or bytes 1 0) in
    let link : here ≡ link_at image block = ap (λ (b : List ℕ). the_link b) c.sector-bytes.ensures.value in
    let on : eqb (link_at image block).0 0 ≡ false = ne_eqb _ _ (λ e. c.if-bytes-eq0.false (ap (λ (b : List ℕ). get_or b 0 0) c.sector-bytes.ensures.value ∙ e)) in
    let first : ℕ × ℕ = (c.args.track, c.args.sector) in
    let walking : Walking image first (c.loop.blocks ++ block ∷ []) c.add.new.self (link_at image block) = record {
      left = s.left;
      trail = s.trail;
      members = λ q. ap (λ (seen : set.FinSet nat_cmp). set.contains seen q) c.add.ensures.value ∙ longer_members c.loop.blocks block c.loop.seen q (v.members q);
      is = s.is ∙ goes_on s.left image c.loop.blocks block on;
    } in
    record {
      walking = subst (λ (bs : List ℕ). Walking image first bs c.add.new.self here) (sym c.push.ensures)
          (subst (Walking image first (c.loop.blocks ++ block ∷ []) c.add.new.self) (sym link) walking);
      below = c.add.ensures.blocks;
      count = ap length c.push.ensures ∙ length-append c.loop.blocks (block ∷ []) ∙ ap (λ (n : ℕ). n + 1) c.loop.invariant.count;
    }

-- a way has no more blocks than a disk
past : (c : goal.After-loop) → ⊥
past c =
    let w = c.loop.invariant.walking in
    let few = length-le_from_distinct_below c.loop.blocks BLOCKS w.trail.distinct (λ q found. c.loop.invariant.below q (w.members q ∙ found)) in
    let count = c.loop.invariant.count in
    omega arith

pub returns-clause-way : goal.returns-clause-way
returns-clause-way c = absurd (past c)

pub returns-clause-held : goal.returns-clause-held
returns-clause-held c = absurd (past c)
