-- on a sound disk the file of a slot is left, or whole, if and only if the reasons of the survey
-- say so
use Rattle.std.proofs.Common.{◌≡◌, ◌≢◌, ℕ, zero, suc, ◌==◌, ◌<◌, ◌||◌, Bool, true, false, not, cond, eqb, eq-eqb, List, [], ◌∷◌, ◌++◌, length, take, get_or, Option, Some, None, refl, sym, ap, ap₂, ◌∙◌, subst, inl, inr, arith}
use Rattle.std.specs.Prelude.{◌&&◌, All, filter, nat_lt}
use Rattle.std.specs.List.{list_any, list_all, flat_map}
use Rattle.std.specs.Option.{option_map_or}
use Rattle.std.specs.FinSet as set
use Rattle.std.proofs.lemmas.Bool.{cases_Bool, or_cases, and_parts, eqb-true}
use Rattle.std.proofs.lemmas.Bool.Decides.{eqb_tells, nat_tests}
use Rattle.std.proofs.lemmas.List.Elements.{All-nil, All-cons, All-head, All-tail, All-weaker, All-from_get_or}
use Rattle.std.proofs.lemmas.List.Folds.{list_any_at, list_any_none, list_any-append}
use Rattle.d64_map.specs.Map.{free_blocks}
use Rattle.d64_files.specs.Chain.{Chain, chain, link_at, link_of, link_to}
use Rattle.d64_files.specs.Directory.{slots, owned_blocks}
use Rattle.d64_files.specs.Ownership.{chain_at}
use Rattle.d64_files.specs.Slot.{first_pair, size_of}
use Rattle.d64_files.specs.declared.dir_fault.DirFault.TheVariants.{NoDirectory, NoChain}
use Rattle.d64_files.proofs.Chains.{begins, chain_before, leads_to, block_in-within, chain-is, not_empty, is_chain}
use Rattle.d64_effects.specs.View.{IsSound}
use Rattle.d64_effects.proofs.Occurrences.{occurs-present}
use Rattle.d64_effects.proofs.TakenBlocks.{free_not_owned}
use Rattle.d64_scratched.specs.Scratched.{is_scratched, scratched_way, blocks_left, is_claimed_below, is_scratched_missized, where_lost, losses, is_lost}
use Rattle.d64_scratched.specs.declared.loss.Loss.{Loss}
use Rattle.d64_scratched.specs.declared.loss.Loss.TheVariants.{Chain as BrokenChain, Reused, Marked, Size, Claimed, Unreadable}
use Rattle.d64_scratched.proofs.NotLost.{not_lost-restored}
use Rattle.d64_survey.specs.Flaws.{any_unreadable}
use Rattle.d64_survey.specs.Owners.{is_owned, is_unowned}
use Rattle.d64_survey.specs.Way.{way, way_on, block_at, is_whole}
use Rattle.d64_survey.specs.declared.way_end.WayEnd.{WayEnd}
use Rattle.d64_survey.specs.declared.way_end.WayEnd.TheVariants.{End}
use Rattle.d64_survey.proofs.FaultOrder.{owned_among}
use Rattle.d64_survey.proofs.Owning.{chain_is_way, owned_are, slots_are}
use Rattle.d64_survey.proofs.Steps.{off, loops, fresh_step, ends, goes_on}
use Rattle.d64_survey.proofs.Traced.{bounded}
use Rattle.d64_dos.specs.Undelete.{chain_of, is_file_left, is_claimed}

-- from each block of a chain there is one
chain_within : (image : List (List ℕ)) (start : ℕ) (blocks : List ℕ) → Chain image start blocks → (q : ℕ) → list_any (eqb q) blocks ≡ true
    → (rest : List ℕ) × Chain image q rest
unfolding Chain
chain_within image start [] h q found = absurd h
chain_within image start (block ∷ []) h q found =
    elim (eqb_tells q block) [
      | inl e ↦ let same : q ≡ start = e.1 ∙ h.0 in (block ∷ [], subst (λ (b : ℕ). Chain image b (block ∷ [])) (sym same) h)
      | inr e ↦ let a : (eqb q block || false) ≡ true = found in elim (or_cases (eqb q block) false a) [ inl t ↦ let f : true ≡ false = sym t ∙ e.0 in cc | inr t ↦ cc ]
    ]
chain_within image start (block ∷ next ∷ rest) h q found =
    elim (or_cases (eqb q block) (list_any (eqb q) (next ∷ rest)) found) [
      | inl t ↦ let same : q ≡ start = eqb-true q block t ∙ h.0 in (block ∷ next ∷ rest, subst (λ (b : ℕ). Chain image b (block ∷ next ∷ rest)) (sym same) h)
      | inr t ↦ chain_within image next (next ∷ rest) h.3 q t
    ]

-- from a block that links to one with a chain there is one
chain_back : (image : List (List ℕ)) (block next : ℕ) (blocks : List ℕ) → block < length image → link_of image block ≡ link_to (Some next) → Chain image next blocks
    → (rest : List ℕ) × Chain image block rest
chain_back image block next blocks within link h =
    let b = begins image next blocks h in
    elim (cases_Bool (list_any (eqb block) blocks)) [
      | inl t ↦ chain_within image next blocks h block t
      | inr f ↦ (
        block ∷ next ∷ b.0,
        chain_before image block next b.0 within link (subst (Chain image next) b.1 h) (subst (λ (bs : List ℕ). list_any (eqb block) bs ≡ false) b.1 f),
      )
    ]

-- there is a chain from a pair whose block has one
at_pair : (image : List (List ℕ)) (pair : ℕ × ℕ) (block : ℕ) (blocks : List ℕ) → block_at image pair ≡ Some block → Chain image block blocks → chain_at image pair ≢ []
at_pair image pair block blocks found h none =
    not_empty image block blocks h (sym (chain-is image block blocks h) ∙ sym (ap (λ (b : Option ℕ). option_map_or (chain image) b []) found) ∙ none)

-- the block of a pair from which there is a chain
next_of : (image : List (List ℕ)) (pair : ℕ × ℕ) (block : Option ℕ) → block_at image pair ≡ block → chain_at image pair ≢ []
    → (next : ℕ) × (block_at image pair ≡ Some next) × Chain image next (chain image next)
next_of image pair None found some = absurd (some (ap (λ (b : Option ℕ). option_map_or (chain image) b []) found))
next_of image pair (Some next) found some =
    (next, found, is_chain image next (chain image next) refl (λ none. some (ap (λ (b : Option ℕ). option_map_or (chain image) b []) found ∙ none)))

-- a way ends if no block is left
none_left : (image : List (List ℕ)) (walked : List ℕ) (pair : ℕ × ℕ) (block : ℕ) → (way_on zero image walked pair (Some block)).0 ≡ walked
unfolding way_on
none_left image walked pair block = refl

-- a way that comes to a block with a chain has a chain, too
comes_to : (left : ℕ) (image : List (List ℕ)) (walked : List ℕ) (pair : ℕ × ℕ) (block : Option ℕ) (q : ℕ) (blocks : List ℕ) → block_at image pair ≡ block
    → Chain image q blocks → list_any (eqb q) walked ≡ false → list_any (eqb q) (way_on left image walked pair block).0 ≡ true → chain_at image pair ≢ []
comes_to left image walked pair None q blocks found h fresh among =
    absurd (let e : true ≡ false = sym among ∙ ap (λ (w : List ℕ × WayEnd). list_any (eqb q) w.0) (off left image walked pair) ∙ fresh in cc)
comes_to zero image walked pair (Some block) q blocks found h fresh among =
    absurd (let e : true ≡ false = sym among ∙ ap (list_any (eqb q)) (none_left image walked pair block) ∙ fresh in cc)
comes_to (suc left) image walked pair (Some block) q blocks found h fresh among =
    elim (cases_Bool (eqb q block)) [
      | inl t ↦ at_pair image pair block blocks found (subst (λ (b : ℕ). Chain image b blocks) (eqb-true q block t) h)
      | inr other ↦ elim (cases_Bool (list_any (eqb block) walked)) [
        | inl t ↦ absurd (let e : true ≡ false = sym among ∙ ap (λ (w : List ℕ × WayEnd). list_any (eqb q) w.0) (loops (suc left) image walked pair block t) ∙ fresh in cc)
        | inr f ↦
            let more : list_any (eqb q) (walked ++ block ∷ []) ≡ false =
            list_any-append (eqb q) walked (block ∷ []) ∙ ap₂ (λ (a b : Bool). a || (b || false)) fresh other in
            let step = ap (λ (w : List ℕ × WayEnd). list_any (eqb q) w.0) (fresh_step left image walked pair block f) in
            elim (cases_Bool (eqb (link_at image block).0 0)) [
              | inl t ↦ absurd (let e : true ≡ false = sym among ∙ step ∙ ap (λ (w : List ℕ × WayEnd). list_any (eqb q) w.0) (ends left image walked block t) ∙ more in cc)
              | inr on ↦
                  let later = sym (step ∙ ap (λ (w : List ℕ × WayEnd). list_any (eqb q) w.0) (goes_on left image walked block on)) ∙ among in
                  let some = comes_to left image (walked ++ block ∷ []) (link_at image block) (block_at image (link_at image block)) q blocks refl h more later in
                  let next = next_of image (link_at image block) (block_at image (link_at image block)) refl some in
                  let back = chain_back image block next.0 (chain image next.0) (block_in-within image pair.0 pair.1 block found) (leads_to image block (Some next.0) on next.1) next.2 in
                  at_pair image pair block back.0 found back.1
            ]
      ]
    ]

-- so it is for a whole way
from_way : (image : List (List ℕ)) (pair : ℕ × ℕ) (q : ℕ) (blocks : List ℕ) → Chain image q blocks → list_any (eqb q) (way image pair).0 ≡ true → chain_at image pair ≢ []
unfolding way
from_way image pair q blocks h among = comes_to (length image) image [] pair (block_at image pair) q blocks refl h refl among

-- a slot's way reaches a block that has a chain if and only if the slot's chain does
same_block : (image : List (List ℕ)) (cell : List ℕ) (q : ℕ) (blocks : List ℕ) → Chain image q blocks
    → list_any (eqb q) (scratched_way image cell).0 ≡ list_any (eqb q) (chain_of image cell)
same_block image cell q blocks h = by_list (chain_of image cell) refl
  where
    by_list : (found : List ℕ) → chain_of image cell ≡ found → list_any (eqb q) (scratched_way image cell).0 ≡ list_any (eqb q) (chain_of image cell)
    by_list [] e =
        elim (cases_Bool (list_any (eqb q) (scratched_way image cell).0)) [
          | inl t ↦ absurd (from_way image (first_pair cell) q blocks h t e)
          | inr f ↦ f ∙ sym (ap (list_any (eqb q)) e)
        ]
    by_list (block ∷ rest) e = ap (list_any (eqb q)) (sym (chain_is_way image (first_pair cell) (λ none. let f : block ∷ rest ≡ [] = sym e ∙ none in cc)))

-- scratched slots among these lead to the block
claimed_by : (image : List (List ℕ)) (q : ℕ) (blocks : List ℕ) → Chain image q blocks → (cells : List (List ℕ))
    → list_any (eqb q) (blocks_left image cells) ≡ list_any (λ cell. is_scratched cell && list_any (eqb q) (chain_of image cell)) cells
claimed_by image q blocks h [] = refl
claimed_by image q blocks h (cell ∷ cells) = by_test (is_scratched cell) (claimed_by image q blocks h cells)
  where
    by_test : (b : Bool)
        → list_any (eqb q) (blocks_left image cells) ≡ list_any (λ c. is_scratched c && list_any (eqb q) (chain_of image c)) cells
        → list_any (eqb q) (flat_map (λ c. (scratched_way image c).0) (cond b (cell ∷ filter is_scratched cells) (filter is_scratched cells)))
        ≡ ((b && list_any (eqb q) (chain_of image cell)) || list_any (λ c. is_scratched c && list_any (eqb q) (chain_of image c)) cells)
    by_test true later =
        list_any-append (eqb q) (scratched_way image cell).0 (blocks_left image cells)
        ∙ ap₂ (λ (a b : Bool). a || b) (same_block image cell q blocks h) later
    by_test false later = later

-- tests that agree on each element
any_same : (p r : ℕ → Bool) (xs : List ℕ) → All (λ x. p x ≡ r x) xs → list_any p xs ≡ list_any r xs
any_same p r [] h = refl
any_same p r (x ∷ xs) h =
    ap₂ (λ (a b : Bool). a || b) (All-head (λ x. p x ≡ r x) x xs h) (any_same p r xs (All-tail (λ x. p x ≡ r x) x xs h))

-- what is left of a chain
pub record Left (image : List (List ℕ)) (cell : List ℕ) : Type 0 where
  pub some : chain_of image cell ≢ []
  pub free : All (λ block. set.contains (free_blocks image) block ≡ true) (chain_of image cell)
  pub size : length (chain_of image cell) ≡ size_of cell

all_pass : (p : ℕ → Bool) (xs : List ℕ) → list_all p xs ≡ true → All (λ x. p x ≡ true) xs
all_pass p [] h = All-nil (λ x. p x ≡ true)
all_pass p (x ∷ xs) h = let parts = and_parts (p x) (list_all p xs) h in All-cons (λ x. p x ≡ true) x xs parts.0 (all_pass p xs parts.1)

pass_all : (p : ℕ → Bool) (xs : List ℕ) → All (λ x. p x ≡ true) xs → list_all p xs ≡ true
pass_all p [] h = refl
pass_all p (x ∷ xs) h = ap₂ (λ (a b : Bool). a && b) (All-head (λ x. p x ≡ true) x xs h) (pass_all p xs (All-tail (λ x. p x ≡ true) x xs h))

some_blocks : (blocks : List ℕ) → nat_lt 0 (length blocks) ≡ true → blocks ≢ []
some_blocks [] h e = let f : false ≡ true = h in cc
some_blocks (block ∷ blocks) h e = cc

count_blocks : (blocks : List ℕ) → blocks ≢ [] → nat_lt 0 (length blocks) ≡ true
count_blocks [] some = absurd (some refl)
count_blocks (block ∷ blocks) some = grind (arith, nat_tests)

pub left_decides : (image : List (List ℕ)) (cell : List ℕ) → is_file_left image cell ≡ true → Left image cell
left_decides image cell h =
    let blocks : List ℕ = chain_of image cell in
    let first = and_parts (nat_lt 0 (length blocks)) (list_all (set.contains (free_blocks image)) blocks && length blocks == size_of cell) h in
    let rest = and_parts (list_all (set.contains (free_blocks image)) blocks) (length blocks == size_of cell) first.1 in
    record {
      some = some_blocks blocks first.0;
      free = all_pass (set.contains (free_blocks image)) blocks rest.0;
      size = eqb-true (length blocks) (size_of cell) rest.1;
    }

pub is_left_so : (image : List (List ℕ)) (cell : List ℕ) → Left image cell → is_file_left image cell ≡ true
is_left_so image cell left =
    ap₂ (λ (a b : Bool). a && b) (count_blocks (chain_of image cell) left.some)
    (ap₂ (λ (a b : Bool). a && b) (pass_all (set.contains (free_blocks image)) (chain_of image cell) left.free) (eq-eqb (length (chain_of image cell)) (size_of cell) left.size))

-- where the four tests fail, no reason is fatal
not_lost_by : (broken reused marked size claimed unreadable : Bool) → broken ≡ false → reused ≡ false → marked ≡ false → size ≡ false
    → is_lost (where_lost broken BrokenChain ++ (where_lost reused Reused ++ (where_lost marked Marked ++ (where_lost size Size ++ (where_lost claimed Claimed ++ where_lost unreadable Unreadable))))) ≡ false
not_lost_by true reused marked size claimed unreadable a b c d = absurd (cc)
not_lost_by false true marked size claimed unreadable a b c d = absurd (cc)
not_lost_by false false true size claimed unreadable a b c d = absurd (cc)
not_lost_by false false false true claimed unreadable a b c d = absurd (cc)
not_lost_by false false false false true true a b c d = refl
not_lost_by false false false false true false a b c d = refl
not_lost_by false false false false false true a b c d = refl
not_lost_by false false false false false false a b c d = refl

-- what a sound image has free has no owner
free_unowned : (image : List (List ℕ)) → IsSound image → (q : ℕ) → set.contains (free_blocks image) q ≡ true → is_owned image q ≡ false
free_unowned image sound q free =
    let same = owned_are image (sound NoDirectory (omega arith) (omega arith)) (sound NoChain (omega arith) (omega arith)) in
    owned_among image q ∙ ap (list_any (eqb q)) same
    ∙ elim (cases_Bool (list_any (eqb q) (owned_blocks image))) [
      | inl t ↦ absurd (let n = free_not_owned image sound q free in let p = occurs-present q (owned_blocks image) t in omega arith)
      | inr f ↦ f
    ]

free_unmarked : (owned : Bool) → (not owned && not true) ≡ false
free_unmarked true = refl
free_unmarked false = refl

right_size : (whole : Bool) (a b : ℕ) → a ≡ b → (whole && not (a == b)) ≡ false
right_size true a b e = ap not (eq-eqb a b e)
right_size false a b e = refl

-- a file isn't lost that is left on a sound image
not_lost : (image : List (List ℕ)) (slot : ℕ) (cell : List ℕ) → IsSound image → Left image cell → is_lost (losses image None slot cell) ≡ false
unfolding losses
not_lost image slot cell sound left =
    let walked = scratched_way image cell in
    let is : chain_of image cell ≡ walked.0 = chain_is_way image (first_pair cell) left.some in
    let end : walked.1 ≡ End = (bounded image (first_pair cell)).end left.some in
    let all : All (λ block. set.contains (free_blocks image) block ≡ true) walked.0 = subst (All (λ block. set.contains (free_blocks image) block ≡ true)) is left.free in
    not_lost_by (not (is_whole walked.1)) (list_any (is_owned image) walked.0) (list_any (is_unowned image) walked.0) (is_scratched_missized cell walked)
    (list_any (is_claimed_below image slot) walked.0) (any_unreadable None walked.0)
    (ap (λ (e : WayEnd). not (is_whole e)) end)
    (list_any_none (is_owned image) walked.0 (All-weaker (λ block. set.contains (free_blocks image) block ≡ true) (λ block. is_owned image block ≡ false) (λ q h. free_unowned image sound q h) walked.0 all))
    (list_any_none (is_unowned image) walked.0 (All-weaker (λ block. set.contains (free_blocks image) block ≡ true) (λ block. is_unowned image block ≡ false)
    (λ q h. ap (λ (f : Bool). not (is_owned image q) && not f) h ∙ free_unmarked (is_owned image q)) walked.0 all))
    (right_size (is_whole walked.1) (length walked.0) (size_of cell) (sym (ap length is) ∙ left.size))

-- it is left if and only if it isn't lost
pub left_same : (image : List (List ℕ)) (slot : ℕ) (cell : List ℕ) → IsSound image → not (is_lost (losses image None slot cell)) ≡ is_file_left image cell
left_same image slot cell sound =
    elim (cases_Bool (is_lost (losses image None slot cell))) [
      | inl t ↦
          ap not t
          ∙ sym (elim (cases_Bool (is_file_left image cell)) [
            | inl l ↦ absurd (let e : true ≡ false = sym t ∙ not_lost image slot cell sound (left_decides image cell l) in cc)
            | inr f ↦ f
          ])
      | inr f ↦
          let can = not_lost-restored image None slot cell f in
          ap not f
          ∙ sym (is_left_so image cell (record {
            some = can.some;
            free = subst (All (λ block. set.contains (free_blocks image) block ≡ true)) (sym can.chain) can.free;
            size = ap length can.chain ∙ can.size;
          }))
    ]

-- a file that is lost has losses
lost_some : (reasons : List Loss) → is_lost reasons ≡ true → (length reasons == 0) ≡ false
lost_some [] h = absurd (let e : false ≡ true = h in cc)
lost_some (reason ∷ reasons) h = elim (cases_Bool (length (reason ∷ reasons) == 0)) [
  | inl t ↦ absurd (let e = eqb-true (length (reason ∷ reasons)) 0 t in omega arith)
  | inr f ↦ f
]

-- one that isn't, and can be read, has one at most
only_claimed : (broken reused marked size claimed unreadable : Bool)
    → is_lost (where_lost broken BrokenChain ++ (where_lost reused Reused ++ (where_lost marked Marked ++ (where_lost size Size ++ (where_lost claimed Claimed ++ where_lost unreadable Unreadable))))) ≡ false
    → unreadable ≡ false
    → (length (where_lost broken BrokenChain ++ (where_lost reused Reused ++ (where_lost marked Marked ++ (where_lost size Size ++ (where_lost claimed Claimed ++ where_lost unreadable Unreadable))))) == 0) ≡ not claimed
only_claimed true reused marked size claimed unreadable h r = absurd (let e : true ≡ false = h in cc)
only_claimed false true marked size claimed unreadable h r = absurd (let e : true ≡ false = h in cc)
only_claimed false false true size claimed unreadable h r = absurd (let e : true ≡ false = h in cc)
only_claimed false false false true claimed unreadable h r = absurd (let e : true ≡ false = h in cc)
only_claimed false false false false claimed true h r = absurd (let e : true ≡ false = r in cc)
only_claimed false false false false true false h r = refl
only_claimed false false false false false false h r = refl

readable : (blocks : List ℕ) → any_unreadable None blocks ≡ false
readable [] = refl
readable (block ∷ blocks) = readable blocks

-- its blocks are claimed by ways where they are by chains
claims_same : (image : List (List ℕ)) (slot : ℕ) (cell : List ℕ) → IsSound image → chain_of image cell ≢ []
    → list_any (is_claimed_below image slot) (scratched_way image cell).0 ≡ list_any (is_claimed image slot) (chain_of image cell)
claims_same image slot cell sound some =
    let blocks : List ℕ = chain_of image cell in
    let next = next_of image (first_pair cell) (block_at image (first_pair cell)) refl some in
    let whole : Chain image next.0 blocks = subst (Chain image next.0) (sym (ap (λ (b : Option ℕ). option_map_or (chain image) b []) next.1)) next.2 in
    ap (list_any (is_claimed_below image slot)) (sym (chain_is_way image (first_pair cell) some))
    ∙ any_same (is_claimed_below image slot) (is_claimed image slot) blocks
    (All-from_get_or (λ q. is_claimed_below image slot q ≡ is_claimed image slot q) blocks 0 (λ k within.
    let q : ℕ = get_or blocks k 0 in
    let there = chain_within image next.0 blocks whole q (list_any_at (eqb q) blocks k 0 within (eq-eqb q q refl)) in
    ap (λ (cells : List (List ℕ)). list_any (eqb q) (blocks_left image (take slot cells))) (sym (slots_are image (sound NoDirectory (omega arith) (omega arith))))
    ∙ claimed_by image q there.0 there.1 (take slot (slots image))))

-- and it is whole if and only if it is left and no block is claimed
pub whole_same : (image : List (List ℕ)) (slot : ℕ) (cell : List ℕ) → IsSound image
    → (length (losses image None slot cell) == 0) ≡ (is_file_left image cell && not (list_any (is_claimed image slot) (chain_of image cell)))
unfolding losses
whole_same image slot cell sound =
    let walked = scratched_way image cell in
    let same = left_same image slot cell sound in
    elim (cases_Bool (is_lost (losses image None slot cell))) [
      | inl t ↦
          lost_some (losses image None slot cell) t
          ∙ sym (ap (λ (b : Bool). b && not (list_any (is_claimed image slot) (chain_of image cell))) (sym same ∙ ap not t))
      | inr f ↦
          let left : is_file_left image cell ≡ true = sym same ∙ ap not f in
          only_claimed (not (is_whole walked.1)) (list_any (is_owned image) walked.0) (list_any (is_unowned image) walked.0) (is_scratched_missized cell walked)
          (list_any (is_claimed_below image slot) walked.0) (any_unreadable None walked.0) f (readable walked.0)
          ∙ ap not (claims_same image slot cell sound (left_decides image cell left).some)
          ∙ sym (ap (λ (b : Bool). b && not (list_any (is_claimed image slot) (chain_of image cell))) left)
    ]
