-- the words of a set, and the set that they mark
use Rattle.std.proofs.Common.{◌≡◌, ℕ, zero, suc, ◌+◌, ◌-◌, ◌*◌, ◌/◌, ◌%◌, ◌^◌, ◌<◌, ◌&&◌, ◌||◌, Bool, true, false, cond, eqb, ltb, nat_eq, List, length, get_or, refl, sym, ap, ap₂, ◌∙◌, subst, inl, inr, arith}
use Rattle.std.specs.Int.{bit_at}
use Rattle.std.specs.Ordering.{nat_cmp}
use Rattle.std.specs.Bool.{Decides}
use Rattle.std.specs.Cmp.{IsEquivalence, decided, nat_cmp_total, unsigned_tied}
use Rattle.std.specs.FinSet as set
use Rattle.std.specs.FinSet.{contains-empty, contains-insert, same_set, is_subset-contains, contains-is_subset, nat_cmp-IsAntisymmetric}
use Rattle.std.proofs.Math.Nat.{two-pow-succ}
use Rattle.std.proofs.lemmas.Bool.{cases_Bool, cases_lt}
use Rattle.std.proofs.lemmas.Bool.Decides.{nat_tests, eqb_tells}
use Rattle.std.proofs.lemmas.List.FromFn.{fill_by_all}
use Rattle.std.proofs.lemmas.List.Elements.{All-get_or}
use Rattle.std.proofs.lemmas.Nat.Bits.{bit_at-lt, bit_at_cat_low, bit_at_cat_high, same_from_bits_below}
use Rattle.d64_image.specs.BlockSet.{BlockSet, is_marked, marked_below, marked_blocks, AreWords, bits_where, words_of, same_members}
use Rattle.d64_image.specs.declared.block.TheConstants.{BLOCKS}

-- if both of two tests pass, each of them passes
pub both_true : (a b : Bool) → (a && b) ≡ true → (a ≡ true) × (b ≡ true)
both_true true b h = (refl, h)
both_true false b h = (h, absurd (cc))

-- the members below a number are the marked blocks
pub contains-marked_below : (n : ℕ) (words : List ℕ) (q : ℕ) → set.contains (marked_below n words) q ≡ (ltb q n && is_marked words q)
unfolding marked_below
contains-marked_below zero words q =
    contains-empty nat_cmp q ∙ (let e : false ≡ (ltb q 0 && is_marked words q) = grind (arith, nat_tests) in e)
contains-marked_below (suc n) words q =
    let below = contains-marked_below n words q in
    elim (cases_Bool (is_marked words n)) [
      | inl marks ↦ ap (λ (b : Bool). set.contains (cond b (set.insert (marked_below n words) n) (marked_below n words)) q) marks
          ∙ contains-insert nat_cmp_total (marked_below n words) n q
          ∙ ap (λ (b : Bool). b || set.contains (marked_below n words) q) (unsigned_tied q n)
          ∙ ap (λ (b : Bool). eqb q n || b) below
          ∙ with_last n words q marks
      | inr misses ↦ ap (λ (b : Bool). set.contains (cond b (set.insert (marked_below n words) n) (marked_below n words)) q) misses ∙ below ∙ without_last n words q misses
    ]
  where
    with_last : (n : ℕ) (words : List ℕ) (q : ℕ) → is_marked words n ≡ true → (eqb q n || (ltb q n && is_marked words q)) ≡ (ltb q (suc n) && is_marked words q)
    with_last n words q marks =
        elim (eqb_tells q n) [
          | inl e ↦ let z : is_marked words q ≡ true = ap (is_marked words) e.1 ∙ marks in grind (arith, nat_tests)
          | inr e ↦ grind (arith, nat_tests)
        ]

    without_last : (n : ℕ) (words : List ℕ) (q : ℕ) → is_marked words n ≡ false → (ltb q n && is_marked words q) ≡ (ltb q (suc n) && is_marked words q)
    without_last n words q misses =
        elim (eqb_tells q n) [
          | inl e ↦ let z : is_marked words q ≡ false = ap (is_marked words) e.1 ∙ misses in grind (arith, nat_tests)
          | inr e ↦ grind (arith, nat_tests)
        ]

-- a block is a member if it is marked
pub contains-marked_blocks : (words : List ℕ) (block : ℕ) → block < BLOCKS → set.contains (marked_blocks words) block ≡ is_marked words block
contains-marked_blocks words block h =
    contains-marked_below BLOCKS words block
    ∙ ap (λ (b : Bool). b && is_marked words block) (let e : ltb block BLOCKS ≡ true = grind (arith, nat_tests) in e)

-- a test as a bit
abbrev pub as_bit : Bool → ℕ
as_bit b = cond b 1 0

bit_of_bit : (b : Bool) → bit_at (as_bit b) 0 ≡ as_bit b
bit_of_bit true = refl
bit_of_bit false = refl

bit_below : (b : Bool) → as_bit b < 2
bit_below true = omega arith
bit_below false = omega arith

-- a number of n bits is below 2 to the power of n
bits_where-below : (p : ℕ → Bool) (n : ℕ) → bits_where p n < 2 ^ n
unfolding bits_where
bits_where-below p zero = omega arith
bits_where-below p (suc n) =
    let h = bits_where-below p n in
    let t = two-pow-succ n in
    elim (cases_Bool (p n)) [
      | inl marks ↦ let e : as_bit (p n) * 2 ^ n ≡ 2 ^ n = ap (λ (b : Bool). as_bit b * 2 ^ n) marks ∙ omega arith in omega arith
      | inr misses ↦ let e : as_bit (p n) * 2 ^ n ≡ 0 = ap (λ (b : Bool). as_bit b * 2 ^ n) misses ∙ omega arith in omega arith
    ]

-- each bit is the test at its place
bit_at-where : (p : ℕ → Bool) (n bit : ℕ) → bit < n → bit_at (bits_where p n) bit ≡ as_bit (p bit)
unfolding bits_where
bit_at-where p zero bit h = absurd (omega arith)
bit_at-where p (suc n) bit h =
    elim (cases_lt bit n) [
      | inl below ↦ bit_at_cat_low (as_bit (p n)) n (bits_where p n) bit below ∙ bit_at-where p n bit below
      | inr past ↦
          let same : n ≡ bit = omega arith in
          let last : bit - n ≡ 0 = omega arith in
          bit_at_cat_high (as_bit (p n)) n (bits_where p n) bit (bits_where-below p n) past ∙ ap (bit_at (as_bit (p n))) last
          ∙ bit_of_bit (p n)
          ∙ ap (λ (k : ℕ). as_bit (p k)) same
    ]

-- a bit is the result of its test
pub bit_tested : (b : ℕ) → b < 2 → as_bit (nat_eq b 1) ≡ b
bit_tested zero h = refl
bit_tested (suc zero) h = refl
bit_tested (suc (suc b)) h = absurd (omega arith)

-- the word at a place has the bits of its blocks
word-is : (words : List ℕ) (place : ℕ) → AreWords words → place < length words
    → bits_where (λ bit. set.contains (marked_blocks words) (32 * place + bit)) 32 ≡ get_or words place 0
word-is words place are held =
    same_from_bits_below 32 _ _ (bits_where-below (λ bit. set.contains (marked_blocks words) (32 * place + bit)) 32) (All-get_or (λ word. word < 2 ^ 32) words place 0 held are.fit) (λ bit h.
    let all = are.all in
    let at : (32 * place + bit) / 32 ≡ place = omega arith in
    let on : (32 * place + bit) % 32 ≡ bit = omega arith in
    bit_at-where (λ bit. set.contains (marked_blocks words) (32 * place + bit)) 32 bit h
    ∙ ap as_bit (contains-marked_blocks words (32 * place + bit) (omega arith))
    ∙ ap (λ (k : ℕ). as_bit (nat_eq (bit_at (get_or words k 0) ((32 * place + bit) % 32)) 1)) at
    ∙ ap (λ (k : ℕ). as_bit (nat_eq (bit_at (get_or words place 0) k) 1)) on
    ∙ bit_tested (bit_at (get_or words place 0) bit) (bit_at-lt (get_or words place 0) bit))

-- the words of a set are those that made it
pub words_of-marked_blocks : (words : List ℕ) → AreWords words → words_of (marked_blocks words) ≡ words
unfolding words_of
words_of-marked_blocks words are =
    let long : length words ≡ BLOCKS / 32 = let all = are.all in omega arith in
    sym (fill_by_all (λ place. bits_where (λ bit. set.contains (marked_blocks words) (32 * place + bit)) 32) words (BLOCKS / 32) 0 long (λ place h.
    sym (word-is words place are (omega arith))))

-- two truth values that imply one another are equal
alike : (a b : Bool) → (a ≡ true → b ≡ true) → (b ≡ true → a ≡ true) → a ≡ b
alike true b to from = sym (to refl)
alike false true to from = from refl
alike false false to from = refl

-- sets with the same members are equal
pub Decides-same_members : (s t : BlockSet) → Decides (same_members s t) (s ≡ t)
Decides-same_members s t = (
  λ h. let both = both_true (set.is_subset s t) (set.is_subset t s) h in
      same_set nat_cmp_total nat_cmp-IsAntisymmetric s t (λ q.
      alike (set.contains s q) (set.contains t q) (is_subset-contains nat_cmp_total s t both.0 q) (is_subset-contains nat_cmp_total t s both.1 q)),
  λ e. subst (λ (u : BlockSet). same_members s u ≡ true) e
      (let h : set.is_subset s s ≡ true = contains-is_subset nat_cmp_total s s (λ q one. one) in ap₂ ◌&&◌ h h),
)

-- so the comparison is an equivalence
pub same_members-is_equivalence : IsEquivalence same_members
same_members-is_equivalence = decided same_members Decides-same_members
