-- What a way says of the chain from its first block.
use Rattle.std.proofs.Common.{◌≡◌, ◌≢◌, ℕ, zero, suc, ◌+◌, ◌<◌, true, false, eqb, List, [], ◌∷◌, ◌++◌, length, Option, Some, None, refl, sym, ap, ◌∙◌, subst, inl, inr}
use Rattle.std.specs.List.{list_any}
use Rattle.std.specs.Option.{option_map_or}
use Rattle.std.specs.Ordering.{nat_cmp}
use Rattle.std.specs.FinSet as set
use Rattle.std.specs.FinSet.{contains-empty}
use Rattle.std.proofs.lemmas.Bool.{cases_Bool}
use Rattle.d64_files.specs.Chain.{Chain, chain, link_at}
use Rattle.d64_files.specs.Ownership.{chain_at}
use Rattle.d64_files.proofs.Chains.{block_in-within, ends_at, leads_to, chain-is, is_chain, not_empty}
use Rattle.d64_files.proofs.Walks.{Walked, started, stepped, whole_chain, no_chain_back, no_chain_off, longer_members}
use Rattle.d64_survey.specs.Way.{way, way_on, block_at}
use Rattle.d64_survey.specs.declared.way_end.WayEnd.{WayEnd}
use Rattle.d64_survey.specs.declared.way_end.WayEnd.TheVariants.{End, Off, Loop}
use Rattle.d64_survey.proofs.Steps.{from_block, off, loops, fresh_step, ends, goes_on}
use Rattle.d64_survey.proofs.Trails.{Trail, begun, added, some_left}

-- the way's blocks are distinct ones of the image; if it ends after a last block they are the
-- chain, and otherwise there is no chain
pub record Traced (image : List (List ℕ)) (start : ℕ) (traced : List ℕ × WayEnd) : Type 0 where
  pub left : ℕ
  pub trail : Trail image left traced.0
  pub whole : traced.1 ≡ End → Chain image start traced.0
  pub none : (traced.1 ≡ End → ⊥) → (blocks : List ℕ) → Chain image start blocks → ⊥

-- a way that ends with a pair is no chain
off_traced : (image : List (List ℕ)) (start left : ℕ) (walked : List ℕ) (track sector : ℕ) → Trail image left walked
    → ((blocks : List ℕ) → Chain image start blocks → ⊥) → Traced image start (walked, Off track sector)
off_traced image start left walked track sector trail none = record {
  left = left;
  trail = trail;
  whole = λ e. absurd (let f : Off track sector ≡ End = e in cc);
  none = λ _. none;
}

loop_traced : (image : List (List ℕ)) (start left : ℕ) (walked : List ℕ) (track sector : ℕ) → Trail image left walked
    → ((blocks : List ℕ) → Chain image start blocks → ⊥) → Traced image start (walked, Loop track sector)
loop_traced image start left walked track sector trail none = record {
  left = left;
  trail = trail;
  whole = λ e. absurd (let f : Loop track sector ≡ End = e in cc);
  none = λ _. none;
}

end_traced : (image : List (List ℕ)) (start left : ℕ) (walked : List ℕ) → Trail image left walked → Chain image start walked → Traced image start (walked, End)
end_traced image start left walked trail whole = record { left = left; trail = trail; whole = λ _. whole; none = λ other. absurd (other refl) }

-- a set with one more block has it
has_added : (seen : set.FinSet nat_cmp) (walked : List ℕ) (block q limit : ℕ) → ((q : ℕ) → set.contains seen q ≡ list_any (eqb q) walked)
    → ((q : ℕ) → list_any (eqb q) (walked ++ block ∷ []) ≡ true → q < limit) → set.contains (set.insert seen block) q ≡ true → q < limit
has_added seen walked block q limit members below found = below q (sym (longer_members walked block seen q (members q)) ∙ found)

-- what the way on from a block says that a walk has come to, and whose link has another track than
-- 0
records : (left : ℕ) (image : List (List ℕ)) (start last count : ℕ) (walked : List ℕ) (seen : set.FinSet nat_cmp) (block : Option ℕ)
    → Walked image start last count (length image) walked seen → Trail image left walked → last < length image → eqb (link_at image last).0 0 ≡ false
    → block_at image (link_at image last) ≡ block → Traced image start (way_on left image walked (link_at image last) block)
records left image start last count walked seen None w trail within on found =
    subst (Traced image start) (sym (off left image walked (link_at image last)))
    (off_traced image start left walked _ _ trail (no_chain_off image start last count (length image) walked seen w (leads_to image last None on found)))
records zero image start last count walked seen (Some block) w trail within on found =
    elim (cases_Bool (list_any (eqb block) walked)) [
      | inl t ↦
          subst (Traced image start) (sym (loops zero image walked (link_at image last) block t))
          (loop_traced image start zero walked _ _ trail
          (no_chain_back image start last block count (length image) walked seen w (leads_to image last (Some block) on found) (w.members block ∙ t)))
      | inr f ↦ let some = some_left image zero walked block trail f (block_in-within image _ _ block found) in absurd (let e : zero ≡ suc some.0 = some.1 in cc)
    ]
records (suc left) image start last count walked seen (Some block) w trail within on found =
    elim (cases_Bool (list_any (eqb block) walked)) [
      | inl t ↦
          subst (Traced image start) (sym (loops (suc left) image walked (link_at image last) block t))
          (loop_traced image start (suc left) walked _ _ trail
          (no_chain_back image start last block count (length image) walked seen w (leads_to image last (Some block) on found) (w.members block ∙ t)))
      | inr f ↦
          let inside = block_in-within image _ _ block found in
          let longer = added image left walked block trail f inside in
          let more = set.insert seen block in
          let next = stepped image start last block count (length image) walked seen more w within (leads_to image last (Some block) on found) (w.members block ∙ f) refl
          (λ q have. has_added seen walked block q (length image) w.members longer.within have) in
          subst (Traced image start) (sym (fresh_step left image walked (link_at image last) block f))
          (elim (cases_Bool (eqb (link_at image block).0 0)) [
            | inl t ↦ subst (Traced image start) (sym (ends left image walked block t))
                (end_traced image start left (walked ++ block ∷ []) longer (whole_chain image start block (count + 1) (length image) (walked ++ block ∷ []) more next inside (ends_at image block t)))
            | inr o ↦ subst (Traced image start) (sym (goes_on left image walked block o))
                (records left image start block (count + 1) (walked ++ block ∷ []) more (block_at image (link_at image block)) next longer inside o refl)
          ])
    ]

-- what a way from a block of the image says
pub from_start : (image : List (List ℕ)) (pair : ℕ × ℕ) (start : ℕ) → block_at image pair ≡ Some start → Traced image start (way image pair)
unfolding way
from_start image pair start found =
    let inside = block_in-within image _ _ start found in
    let some = some_left image (length image) [] start (begun image) refl inside in
    let left = some.0 in
    let longer = added image left [] start (subst (λ (n : ℕ). Trail image n []) some.1 (begun image)) refl inside in
    let seen = set.insert set.empty start in
    let here = started image start (length image) seen refl (λ q have. has_added set.empty [] start q (length image) (λ k. contains-empty nat_cmp k) longer.within have) in
    let is : way_on (length image) image [] pair (block_at image pair) ≡ from_block left image [] start =
    ap (way_on (length image) image [] pair) found ∙ ap (λ (n : ℕ). way_on n image [] pair (Some start)) some.1 ∙ fresh_step left image [] pair start refl in
    subst (Traced image start) (sym is)
    (elim (cases_Bool (eqb (link_at image start).0 0)) [
      | inl t ↦ subst (Traced image start) (sym (ends left image [] start t))
          (end_traced image start left (start ∷ []) longer (whole_chain image start start 0 (length image) (start ∷ []) seen here inside (ends_at image start t)))
      | inr o ↦ subst (Traced image start) (sym (goes_on left image [] start o))
          (records left image start start 0 (start ∷ []) seen (block_at image (link_at image start)) here longer inside o refl)
    ])

-- the ways from pairs of one block are one way
pub same_way : (image : List (List ℕ)) (pair other : ℕ × ℕ) (block : ℕ) → block_at image pair ≡ Some block → block_at image other ≡ Some block → way image pair ≡ way image other
unfolding way
same_way image pair other block found also_found =
    let some = some_left image (length image) [] block (begun image) refl (block_in-within image _ _ block found) in
    let step : (p : ℕ × ℕ) → block_at image p ≡ Some block → way_on (length image) image [] p (block_at image p) ≡ from_block some.0 image [] block =
    λ p f. ap (way_on (length image) image [] p) f ∙ ap (λ (n : ℕ). way_on n image [] p (Some block)) some.1 ∙ fresh_step some.0 image [] p block refl in
    step pair found ∙ sym (step other also_found)

-- a way from a pair of which the image has no block
no_block : (image : List (List ℕ)) (pair : ℕ × ℕ) → block_at image pair ≡ None → way image pair ≡ ([], Off pair.0 pair.1)
unfolding way
no_block image pair found = ap (way_on (length image) image [] pair) found ∙ off (length image) image [] pair

-- an end that isn't another one is the end
is_end : (end : WayEnd) → ((end ≡ End → ⊥) → ⊥) → end ≡ End
is_end End h = refl
is_end (Off track sector) h = absurd (h (λ (e : Off track sector ≡ End). cc))
is_end (Loop track sector) h = absurd (h (λ (e : Loop track sector ≡ End). cc))

-- the chain from the pair of a block
chain_of_block : (image : List (List ℕ)) (pair : ℕ × ℕ) (block : Option ℕ) → block_at image pair ≡ block → chain_at image pair ≡ option_map_or (chain image) block []
chain_of_block image pair block found = ap (λ (b : Option ℕ). option_map_or (chain image) b []) found

-- what the laws of ways say of one way
pub record Bounded (image : List (List ℕ)) (pair : ℕ × ℕ) : Type 0 where
  pub left : ℕ
  pub trail : Trail image left (way image pair).0
  pub chain : (way image pair).1 ≡ End → (chain_at image pair ≡ (way image pair).0) × (chain_at image pair ≢ [])
  pub end : chain_at image pair ≢ [] → (way image pair).1 ≡ End

by_block : (image : List (List ℕ)) (pair : ℕ × ℕ) (block : Option ℕ) → block_at image pair ≡ block → Bounded image pair
by_block image pair None found =
    let is = no_block image pair found in
    record {
      left = length image;
      trail = subst (λ (w : List ℕ × WayEnd). Trail image (length image) w.0) (sym is) (begun image);
      chain = λ e. absurd (let f : Off pair.0 pair.1 ≡ End = sym (ap (λ (w : List ℕ × WayEnd). w.1) is) ∙ e in cc);
      end = λ some. absurd (some (chain_of_block image pair None found));
    }
by_block image pair (Some start) found =
    let traced = from_start image pair start found in
    let same = chain_of_block image pair (Some start) found in
    record {
      left = traced.left;
      trail = traced.trail;
      chain = λ e.
          let whole = traced.whole e in
          let is = chain-is image start (way image pair).0 whole in
          (same ∙ is, λ none. not_empty image start (way image pair).0 whole (sym is ∙ sym same ∙ none));
      end = λ some. is_end (way image pair).1 (λ other.
          traced.none other (chain image start) (is_chain image start (chain image start) refl (λ none. some (same ∙ none))));
    }

pub bounded : (image : List (List ℕ)) (pair : ℕ × ℕ) → Bounded image pair
bounded image pair = by_block image pair (block_at image pair) refl
