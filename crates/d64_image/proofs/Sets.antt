-- the set of the words after a bit is changed
use Rattle.std.proofs.Common.{◌≡◌, ◌≢◌, ℕ, zero, suc, ◌+◌, ◌-◌, ◌*◌, ◌/◌, ◌%◌, ◌^◌, ◌<◌, ◌≤◌, ◌&&◌, ◌||◌, Bool, true, false, cond, not, ltb, nat_eq, List, length, replicate, get_or, w32, refl, sym, ap, ap₂, ◌∙◌, inl, inr, arith}
use Rattle.std.specs.Prelude.{count_ones, bit_and, bit_or}
use Rattle.std.specs.Int.{bit_at}
use Rattle.std.specs.Int.Bits.{and_lt}
use Rattle.std.specs.Int.Count.{ones}
use Rattle.std.specs.Ordering.{nat_cmp}
use Rattle.std.specs.Bool.{Decides}
use Rattle.std.specs.Cmp.{nat_cmp_total, unsigned_tied, unsigned_Decides}
use Rattle.std.specs.Cmp.Lexicographic.{pointwise, pointwise_decides}
use Rattle.std.specs.FinSet as blocks
use Rattle.std.specs.FinSet.{contains-empty, contains-insert, contains-remove, same_set, nat_cmp-IsAntisymmetric, len-empty, len-insert}
use Rattle.std.proofs.Math.Nat.{mod-lt, mod-eq_of_lt}
use Rattle.std.proofs.Math.ListN.{set}
use Rattle.std.proofs.lemmas.Bool.{cases_Bool}
use Rattle.std.proofs.lemmas.Bool.Decides.{nat_tests, eqb_tells, same_from_decides}
use Rattle.std.proofs.lemmas.List.{get_or-set_same, get_or-set_other, length-set}
use Rattle.std.proofs.lemmas.List.Elements.{All-get_or, All-set}
use Rattle.std.proofs.lemmas.Nat.{pow_pos, mod-pow-add, ones_cat, or_lt}
use Rattle.std.proofs.lemmas.Nat.Bits.{bit_at-lt, bit_at-zero, bit_at_set_same, bit_at_set_other, bit_at_clear_same, bit_at_clear_other}
use Rattle.d64_image.specs.declared.block.TheConstants.{BLOCKS}
use Rattle.d64_image.specs.BlockSet.{is_marked, marked_below, marked_blocks, AreWords, words_of, same_members, MembersAreBlocks}
use Rattle.d64_image.specs.Marks.{both_true, contains-marked_below, words_of-marked_blocks, Decides-same_members}

-- words that are all equal
get_or-alike : (n k word : ℕ) → get_or (replicate n word) k word ≡ word
get_or-alike zero k word = refl
get_or-alike (suc n) zero word = refl
get_or-alike (suc n) (suc k) word = get_or-alike n k word

-- no bit, no member
pub marked_blocks-zeros : (n : ℕ) → marked_blocks (replicate n 0) ≡ blocks.empty
marked_blocks-zeros n =
    same_set nat_cmp_total nat_cmp-IsAntisymmetric _ _ (λ q.
    let none : is_marked (replicate n 0) q ≡ false = ap (λ (word : ℕ). nat_eq (bit_at word (q % 32)) 1) (get_or-alike n (q / 32) 0) ∙ ap (λ (b : ℕ). nat_eq b 1) (bit_at-zero (q % 32)) in
    contains-marked_below BLOCKS (replicate n 0) q
    ∙ ap (λ (b : Bool). ltb q BLOCKS && b) none
    ∙ (let e : (ltb q BLOCKS && false) ≡ false = grind (arith, nat_tests) in e)
    ∙ sym (contains-empty nat_cmp q))

-- a word in place of another that differs from it in one bit at most
pub record DiffersAt (old new bit : ℕ) : Type 0 where
  pub others : (i : ℕ) → i < 32 → i ≢ bit → bit_at new i ≡ bit_at old i

-- the new word decides whether the block of that bit is marked
this_mark : (words : List ℕ) (block new : ℕ) → block / 32 < length words → is_marked (set words (block / 32) new) block ≡ nat_eq (bit_at new (block % 32)) 1
this_mark words block new held =
    ap (λ (word : ℕ). nat_eq (bit_at word (block % 32)) 1) (get_or-set_same words (block / 32) new 0 held)

-- all other blocks are marked as before
other_mark : (words : List ℕ) (block new q : ℕ) → block / 32 < length words → DiffersAt (get_or words (block / 32) 0) new (block % 32) → q ≢ block
    → is_marked (set words (block / 32) new) q ≡ is_marked words q
other_mark words block new q held differs apart =
    elim (eqb_tells (q / 32) (block / 32)) [
      | inl e ↦
          let same : q / 32 ≡ block / 32 = e.1 in
          let bits : q % 32 ≢ block % 32 = λ z. apart (omega arith) in
          ap (λ (k : ℕ). nat_eq (bit_at (get_or (set words (block / 32) new) k 0) (q % 32)) 1) same
          ∙ ap (λ (word : ℕ). nat_eq (bit_at word (q % 32)) 1) (get_or-set_same words (block / 32) new 0 held)
          ∙ ap (λ (b : ℕ). nat_eq b 1) (differs.others (q % 32) (omega arith) bits)
          ∙ ap (λ (k : ℕ). nat_eq (bit_at (get_or words k 0) (q % 32)) 1) (sym same)
      | inr e ↦ ap (λ (word : ℕ). nat_eq (bit_at word (q % 32)) 1) (get_or-set_other words (block / 32) (q / 32) new 0 e.1)
    ]

-- a bit that is set makes its block a member
pub marked_blocks-add : (words : List ℕ) (block new : ℕ) → block < BLOCKS → block / 32 < length words → bit_at new (block % 32) ≡ 1
    → DiffersAt (get_or words (block / 32) 0) new (block % 32) → marked_blocks (set words (block / 32) new) ≡ blocks.insert (marked_blocks words) block
marked_blocks-add words block new within held one differs =
    same_set nat_cmp_total nat_cmp-IsAntisymmetric _ _ (λ q.
    contains-marked_below BLOCKS (set words (block / 32) new) q
    ∙ elim (eqb_tells q block) [
      | inl e ↦
          let z : is_marked (set words (block / 32) new) q ≡ true = ap (is_marked (set words (block / 32) new)) e.1 ∙ this_mark words block new held ∙ ap (λ (b : ℕ). nat_eq b 1) one in
          let l : ltb q BLOCKS ≡ true = ap (λ (k : ℕ). ltb k BLOCKS) e.1 ∙ (let x : ltb block BLOCKS ≡ true = grind (arith, nat_tests) in x) in
          ap₂ ◌&&◌ l z
          ∙ sym (contains-insert nat_cmp_total (marked_blocks words) block q ∙ ap (λ (b : Bool). b || blocks.contains (marked_blocks words) q) (unsigned_tied q block ∙ e.0))
      | inr e ↦ ap (λ (b : Bool). ltb q BLOCKS && b) (other_mark words block new q held differs e.1)
          ∙ sym (contains-insert nat_cmp_total (marked_blocks words) block q ∙ ap (λ (b : Bool). b || blocks.contains (marked_blocks words) q) (unsigned_tied q block ∙ e.0) ∙ contains-marked_below BLOCKS words q)
    ])

-- a bit that is cleared removes its block
pub marked_blocks-remove : (words : List ℕ) (block new : ℕ) → block < BLOCKS → block / 32 < length words → bit_at new (block % 32) ≡ 0
    → DiffersAt (get_or words (block / 32) 0) new (block % 32) → marked_blocks (set words (block / 32) new) ≡ blocks.remove (marked_blocks words) block
marked_blocks-remove words block new within held none differs =
    same_set nat_cmp_total nat_cmp-IsAntisymmetric _ _ (λ q.
    contains-marked_below BLOCKS (set words (block / 32) new) q
    ∙ elim (eqb_tells q block) [
      | inl e ↦
          let z : is_marked (set words (block / 32) new) q ≡ false = ap (is_marked (set words (block / 32) new)) e.1 ∙ this_mark words block new held ∙ ap (λ (b : ℕ). nat_eq b 1) none in
          let l : ltb q BLOCKS ≡ true = ap (λ (k : ℕ). ltb k BLOCKS) e.1 ∙ (let x : ltb block BLOCKS ≡ true = grind (arith, nat_tests) in x) in
          ap₂ ◌&&◌ l z
          ∙ sym (contains-remove nat_cmp_total (marked_blocks words) block q ∙ ap (λ (b : Bool). not b && blocks.contains (marked_blocks words) q) (unsigned_tied q block ∙ e.0))
      | inr e ↦ ap (λ (b : Bool). ltb q BLOCKS && b) (other_mark words block new q held differs e.1)
          ∙ sym (contains-remove nat_cmp_total (marked_blocks words) block q ∙ ap (λ (b : Bool). not b && blocks.contains (marked_blocks words) q) (unsigned_tied q block ∙ e.0) ∙ contains-marked_below BLOCKS words q)
    ])

-- the members are blocks
pub members_are_blocks : (words : List ℕ) (members : blocks.FinSet nat_cmp) → marked_blocks words ≡ members → MembersAreBlocks members
members_are_blocks words members e block h =
    let passed : ltb block BLOCKS ≡ true = (both_true (ltb block BLOCKS) (is_marked words block) (sym (contains-marked_below BLOCKS words block) ∙ ap (λ (s : blocks.FinSet nat_cmp). blocks.contains s block) e ∙ h)).0 in
    grind (arith, nat_tests)

-- the next block is no member yet
one_more : (n : ℕ) (words : List ℕ) → blocks.len (blocks.insert (marked_below n words) n) ≡ blocks.len (marked_below n words) + 1
one_more n words =
    let past : (ltb n n && is_marked words n) ≡ false = grind (arith, nat_tests) in
    len-insert nat_cmp_total (marked_below n words) n
    ∙ ap (λ (b : Bool). cond b (blocks.len (marked_below n words)) (blocks.len (marked_below n words) + 1)) (contains-marked_below n words n ∙ past)

-- no more members than blocks
pub len-marked_below : (n : ℕ) (words : List ℕ) → blocks.len (marked_below n words) ≤ n
unfolding marked_below
len-marked_below zero words = let e = len-empty nat_cmp in omega arith
len-marked_below (suc n) words =
    let below = len-marked_below n words in
    elim (cases_Bool (is_marked words n)) [
      | inl marks ↦ let e = ap (λ (b : Bool). blocks.len (cond b (blocks.insert (marked_below n words) n) (marked_below n words))) marks ∙ one_more n words in omega arith
      | inr misses ↦ let e = ap (λ (b : Bool). blocks.len (cond b (blocks.insert (marked_below n words) n) (marked_below n words))) misses in omega arith
    ]

-- a bit counts if it is 1
bit_counted : (bit : ℕ) → bit < 2 → count_ones bit ≡ cond (nat_eq bit 1) 1 0
unfolding ones
bit_counted zero h = refl
bit_counted (suc zero) h = refl
bit_counted (suc (suc n)) h = absurd (omega arith)

-- one more bit of a word, and one more block
ones_more : (word bit : ℕ) → count_ones (word % 2 ^ (bit + 1)) ≡ cond (nat_eq (bit_at word bit) 1) 1 0 + count_ones (word % 2 ^ bit)
ones_more word bit =
    let next : bit + 1 ≡ 1 + bit = omega arith in
    ap (λ (k : ℕ). count_ones (word % 2 ^ k)) next
    ∙ ap count_ones (mod-pow-add word 1 bit)
    ∙ ones_cat bit (bit_at word bit) (word % 2 ^ bit) (mod-lt word (pow_pos bit))
    ∙ ap (λ (x : ℕ). x + count_ones (word % 2 ^ bit)) (bit_counted (bit_at word bit) (bit_at-lt word bit))

members_more : (n : ℕ) (words : List ℕ) → blocks.len (marked_below (suc n) words) ≡ cond (is_marked words n) 1 0 + blocks.len (marked_below n words)
unfolding marked_below
members_more n words =
    elim (cases_Bool (is_marked words n)) [
      | inl marks ↦ let e = one_more n words in
          ap (λ (b : Bool). blocks.len (cond b (blocks.insert (marked_below n words) n) (marked_below n words))) marks ∙ omega arith
          ∙ ap (λ (b : Bool). cond b 1 0 + blocks.len (marked_below n words)) (sym marks)
      | inr misses ↦ ap (λ (b : Bool). blocks.len (cond b (blocks.insert (marked_below n words) n) (marked_below n words))) misses
          ∙ (let e : blocks.len (marked_below n words) ≡ 0 + blocks.len (marked_below n words) = omega arith in e)
          ∙ ap (λ (b : Bool). cond b 1 0 + blocks.len (marked_below n words)) (sym misses)
    ]

-- the lowest bits of a word add as many members as are 1
bits_counted : (words : List ℕ) (place bit : ℕ) → bit ≤ 32
    → blocks.len (marked_below (32 * place + bit) words) ≡ blocks.len (marked_below (32 * place) words) + count_ones (get_or words place 0 % 2 ^ bit)
bits_counted words place zero few =
    let e : 32 * place + 0 ≡ 32 * place = omega arith in
    let z : get_or words place 0 % 2 ^ 0 ≡ 0 = omega arith in
    let none = ap count_ones z ∙ bit_counted 0 (omega arith) in
    ap (λ (n : ℕ). blocks.len (marked_below n words)) e ∙ omega arith
bits_counted words place (suc bit) few =
    let e : 32 * place + suc bit ≡ suc (32 * place + bit) = omega arith in
    let next : bit + 1 ≡ suc bit = omega arith in
    let at : (32 * place + bit) / 32 ≡ place = omega arith in
    let on : (32 * place + bit) % 32 ≡ bit = omega arith in
    let so_far = bits_counted words place bit (omega arith) in
    let tested : is_marked words (32 * place + bit) ≡ nat_eq (bit_at (get_or words place 0) bit) 1 =
    ap (λ (k : ℕ). nat_eq (bit_at (get_or words k 0) ((32 * place + bit) % 32)) 1) at ∙ ap (λ (k : ℕ). nat_eq (bit_at (get_or words place 0) k) 1) on in
    let more = members_more (32 * place + bit) words ∙ ap (λ (b : Bool). cond b 1 0 + blocks.len (marked_below (32 * place + bit) words)) tested in
    let ones = ones_more (get_or words place 0) bit in
    ap (λ (n : ℕ). blocks.len (marked_below n words)) e ∙ omega arith
    ∙ ap (λ (k : ℕ). blocks.len (marked_below (32 * place) words) + count_ones (get_or words place 0 % 2 ^ k)) next

-- equal sets have equal words
same_marked : (xs ys : List ℕ) → AreWords xs → AreWords ys → marked_blocks xs ≡ marked_blocks ys → xs ≡ ys
same_marked xs ys long far e = sym (words_of-marked_blocks xs long) ∙ ap words_of e ∙ words_of-marked_blocks ys far

-- a comparison of the words says whether the sets are equal
pub Decides-same_words : (xs ys : List ℕ) (s t : blocks.FinSet nat_cmp) → AreWords xs → AreWords ys → marked_blocks xs ≡ s → marked_blocks ys ≡ t
    → (r : Bool) → r ≡ pointwise nat_eq xs ys → Decides r (s ≡ t)
Decides-same_words xs ys s t long far e f r is =
    let known = pointwise_decides unsigned_Decides xs ys in (
      λ h. sym e ∙ ap marked_blocks (known.0 (sym is ∙ h)) ∙ f,
      λ h. is ∙ known.1 (same_marked xs ys long far (e ∙ h ∙ sym f)),
    )

-- the same comparison says whether they have the same members
pub same_words-same_members : (xs ys : List ℕ) (s t : blocks.FinSet nat_cmp) → AreWords xs → AreWords ys → marked_blocks xs ≡ s → marked_blocks ys ≡ t
    → (r : Bool) → r ≡ pointwise nat_eq xs ys → r ≡ same_members s t
same_words-same_members xs ys s t long far e f r is =
    same_from_decides r (same_members s t) (Decides-same_words xs ys s t long far e f r is) (Decides-same_members s t)

-- the word of a block
pub word_held : (words : List ℕ) (block : ℕ) → AreWords words → block < BLOCKS → block / 32 < length words
word_held words block are within = let all = are.all in omega arith

-- words in which one is replaced by a number of 32 bits
pub AreWords-set : (words : List ℕ) (place new : ℕ) → AreWords words → new < 2 ^ 32 → AreWords (set words place new)
AreWords-set words place new are fits = record {
  all = ap (λ (n : ℕ). 32 * n) (length-set words place new) ∙ are.all;
  fit = All-set (λ word. word < 2 ^ 32) words place new fits are.fit;
}

-- a word with one more bit
abbrev pub with_bit : ℕ → ℕ → ℕ
with_bit word bit = bit_or word (1 * 2 ^ bit % 2 ^ 32)

-- a word without a bit
abbrev pub without_bit : ℕ → ℕ → ℕ
without_bit word bit = bit_and word (2 ^ 32 - 1 - 1 * 2 ^ bit % 2 ^ 32)

pub with_bit-fits : (words : List ℕ) (block : ℕ) → AreWords words → block < BLOCKS → with_bit (get_or words (block / 32) 0) (block % 32) < 2 ^ 32
with_bit-fits words block are within =
    or_lt 32 (get_or words (block / 32) 0) (1 * 2 ^ (block % 32) % 2 ^ 32) (All-get_or (λ word. word < 2 ^ 32) words (block / 32) 0 (word_held words block are within) are.fit) (mod-lt (1 * 2 ^ (block % 32)) (pow_pos 32))

pub without_bit-fits : (words : List ℕ) (block : ℕ) → AreWords words → block < BLOCKS → without_bit (get_or words (block / 32) 0) (block % 32) < 2 ^ 32
without_bit-fits words block are within =
    and_lt 32 (get_or words (block / 32) 0) (2 ^ 32 - 1 - 1 * 2 ^ (block % 32) % 2 ^ 32) (All-get_or (λ word. word < 2 ^ 32) words (block / 32) 0 (word_held words block are within) are.fit) (below (1 * 2 ^ (block % 32) % 2 ^ 32))
  where
    below : (n : ℕ) → 2 ^ 32 - 1 - n < 2 ^ 32
    below n = omega arith

-- the set of the words with the bit of a block
pub inserted : (words : List ℕ) (block : ℕ) → AreWords words → block < BLOCKS
    → marked_blocks (set words (block / 32) (with_bit (get_or words (block / 32) 0) (block % 32))) ≡ blocks.insert (marked_blocks words) block
inserted words block are within =
    let few : block % 32 < 32 = omega arith in
    let old : ℕ = get_or words (block / 32) 0 in
    marked_blocks-add words block (with_bit old (block % 32)) within (word_held words block are within) (bit_at_set_same w32 old (block % 32) few) (record { others = λ i _ apart. bit_at_set_other w32 old (block % 32) few i apart })

-- and the word without it
pub removed : (words : List ℕ) (block : ℕ) → AreWords words → block < BLOCKS
    → marked_blocks (set words (block / 32) (without_bit (get_or words (block / 32) 0) (block % 32))) ≡ blocks.remove (marked_blocks words) block
removed words block are within =
    let few : block % 32 < 32 = omega arith in
    let old : ℕ = get_or words (block / 32) 0 in
    marked_blocks-remove words block (without_bit old (block % 32)) within (word_held words block are within) (bit_at_clear_same w32 old (block % 32) few) (record { others = λ i h apart. bit_at_clear_other w32 old (block % 32) few i h apart })

-- one more word and its members
pub word_counted : (words : List ℕ) (place : ℕ) → AreWords words → place < length words
    → blocks.len (marked_below (32 * (place + 1)) words) ≡ blocks.len (marked_below (32 * place) words) + count_ones (get_or words place 0)
word_counted words place are held =
    let e : 32 * (place + 1) ≡ 32 * place + 32 = omega arith in
    ap (λ (n : ℕ). blocks.len (marked_below n words)) e ∙ bits_counted words place 32 (omega arith)
    ∙ ap (λ (word : ℕ). blocks.len (marked_below (32 * place) words) + count_ones word) (mod-eq_of_lt (All-get_or (λ word. word < 2 ^ 32) words place 0 held are.fit))

-- no word, no members
pub none_counted : (words : List ℕ) → blocks.len (marked_below (32 * 0) words) ≡ 0
unfolding marked_below
none_counted words = len-empty nat_cmp
