-- the set after bits of two neighbouring words are set
use Rattle.std.proofs.Common.{◌≡◌, ◌≢◌, ℕ, zero, suc, ◌+◌, ◌-◌, ◌*◌, ◌/◌, ◌%◌, ◌^◌, ◌<◌, ◌≤◌, max, ◌&&◌, ◌||◌, Bool, true, false, leb, ltb, nat_eq, List, length, get_or, bit_or, refl, sym, ap, ap₂, ◌∙◌, inl, inr, arith}
use Rattle.std.specs.Int.{bit_at}
use Rattle.std.specs.FinSet as set
use Rattle.std.proofs.lemmas.Bool.{cases_lt}
use Rattle.std.proofs.lemmas.Bool.Decides.{nat_tests, eqb_tells}
use Rattle.std.proofs.lemmas.List.{get_or-set_same, get_or-set_other, length-set}
use Rattle.std.proofs.lemmas.Nat.{pow_pos, or_lt}
use Rattle.std.proofs.lemmas.Nat.Bits.{bit_at-lt, bit_at-zero, bit_at_or, bit_at_above, bit_at_cat_low, bit_at_cat_high}
use Rattle.d64_image.specs.declared.block.TheConstants.{BLOCKS}
use Rattle.d64_image.specs.BlockSet.{is_marked, marked_blocks, AreWords, with_bits, is_given}
use Rattle.d64_image.specs.Marks.{contains-marked_below}
use Rattle.d64_image.proofs.Sets.{AreWords-set}
use Rattle.d64_image.proofs.Windows.{bit_at-mod, bit_at-div, contains-held, word_fits}

-- words stay words after bits of one of them are set
pub AreWords-with_bits : (words : List ℕ) (place bits : ℕ) → AreWords words → bits < 2 ^ 32 → AreWords (with_bits words place bits)
AreWords-with_bits words place bits are fit =
    AreWords-set words place (bit_or (get_or words place 0) bits) are (or_lt 32 (get_or words place 0) bits (word_fits words place are) fit)

-- a bit that is set in either of two numbers
either : (a b bit : ℕ) → nat_eq (bit_at (bit_or a b) bit) 1 ≡ (nat_eq (bit_at a bit) 1 || nat_eq (bit_at b bit) 1)
either a b bit =
    ap (λ (n : ℕ). nat_eq n 1) (bit_at_or a b bit) ∙ greater (bit_at a bit) (bit_at b bit) (bit_at-lt a bit) (bit_at-lt b bit)
  where
    greater : (x y : ℕ) → x < 2 → y < 2 → nat_eq (max x y) 1 ≡ (nat_eq x 1 || nat_eq y 1)
    greater zero zero h k = refl
    greater zero (suc zero) h k = refl
    greater (suc zero) zero h k = refl
    greater (suc zero) (suc zero) h k = refl
    greater (suc (suc x)) y h k = absurd (omega arith)
    greater x (suc (suc y)) h k = absurd (omega arith)

pub or_false : (a : Bool) → (a || false) ≡ a
or_false true = refl
or_false false = refl

or_assoc : (a b c : Bool) → ((a || b) || c) ≡ (a || (b || c))
or_assoc true b c = refl
or_assoc false b c = refl

-- the marks of the word in which bits are set
word_marked : (words : List ℕ) (place bits block : ℕ) → block / 32 < length words
    → is_marked (with_bits words place bits) block ≡ (is_marked words block || (nat_eq (block / 32) place && nat_eq (bit_at bits (block % 32)) 1))
word_marked words place bits block held =
    elim (eqb_tells (block / 32) place) [
      | inl e ↦
          let same : block / 32 ≡ place = e.1 in
          ap (λ (k : ℕ). nat_eq (bit_at (get_or (with_bits words place bits) k 0) (block % 32)) 1) same
          ∙ ap (λ (word : ℕ). nat_eq (bit_at word (block % 32)) 1) (get_or-set_same words place (bit_or (get_or words place 0) bits) 0 (omega (arith, held, same)))
          ∙ either (get_or words place 0) bits (block % 32)
          ∙ ap (λ (k : ℕ). nat_eq (bit_at (get_or words k 0) (block % 32)) 1 || nat_eq (bit_at bits (block % 32)) 1) (sym same)
          ∙ ap (λ (b : Bool). is_marked words block || (b && nat_eq (bit_at bits (block % 32)) 1)) (sym e.0)
      | inr e ↦
          ap (λ (word : ℕ). nat_eq (bit_at word (block % 32)) 1) (get_or-set_other words place (block / 32) (bit_or (get_or words place 0) bits) 0 e.1)
          ∙ sym (or_false (is_marked words block))
          ∙ ap (λ (b : Bool). is_marked words block || (b && nat_eq (bit_at bits (block % 32)) 1)) (sym e.0)
    ]

-- the bits of a number that is shifted up
bit_at-shifted : (bits count bit : ℕ) → nat_eq (bit_at (bits * 2 ^ count) bit) 1 ≡ (leb count bit && nat_eq (bit_at bits (bit - count)) 1)
bit_at-shifted bits count bit =
    let z : bits * 2 ^ count ≡ bits * 2 ^ count + 0 = omega arith in
    elim (cases_lt bit count) [
      | inl low ↦
          ap (λ (n : ℕ). nat_eq (bit_at n bit) 1) z ∙ ap (λ (n : ℕ). nat_eq n 1) (bit_at_cat_low bits count 0 bit low ∙ bit_at-zero bit)
          ∙ ap (λ (b : Bool). b && nat_eq (bit_at bits (bit - count)) 1) (let e : false ≡ leb count bit = grind (arith, nat_tests) in e)
      | inr high ↦
          ap (λ (n : ℕ). nat_eq (bit_at n bit) 1) z ∙ ap (λ (n : ℕ). nat_eq n 1) (bit_at_cat_high bits count 0 bit (pow_pos count) high)
          ∙ ap (λ (b : Bool). b && nat_eq (bit_at bits (bit - count)) 1) (let e : true ≡ leb count bit = grind (arith, nat_tests) in e)
    ]

-- if the first of two tests decides, it is their result
pick_first : (t a u b g : Bool) → t ≡ true → u ≡ false → a ≡ g → ((t && a) || (u && b)) ≡ g
pick_first t a u b g e f h = ap₂ (λ (x y : Bool). (x && a) || (y && b)) e f ∙ or_false a ∙ h

pick_second : (t a u b g : Bool) → t ≡ false → u ≡ true → b ≡ g → ((t && a) || (u && b)) ≡ g
pick_second t a u b g e f h = ap₂ (λ (x y : Bool). (x && a) || (y && b)) e f ∙ h

pick_neither : (t a u b g : Bool) → t ≡ false → u ≡ false → false ≡ g → ((t && a) || (u && b)) ≡ g
pick_neither t a u b g e f h = ap₂ (λ (x y : Bool). (x && a) || (y && b)) e f ∙ h

-- a block of another word has no bit here
outside : (first bits block : ℕ) → bits < 2 ^ 32 → block / 32 ≢ first / 32 → block / 32 ≢ first / 32 + 1 → false ≡ is_given first bits block
outside first bits block fit other beyond =
    elim (cases_lt block first) [
      | inl before ↦ ap (λ (b : Bool). b && nat_eq (bit_at bits (block - first)) 1) (let e : false ≡ leb first block = grind (arith, nat_tests) in e)
      | inr from ↦
          let far : 32 ≤ block - first = omega arith in
          let none : bit_at bits (block - first) ≡ 0 = bit_at_above bits 32 (block - first) fit far in
          ap₂ (λ (b : Bool) (n : ℕ). b && nat_eq n 1) (let e : true ≡ leb first block = grind (arith, nat_tests) in e) (sym none)
    ]

-- of the bits that are shifted to the place of the first block, one word has some and the next one
-- the others
in_two_words : (first bits block : ℕ) → bits < 2 ^ 32
    → ((nat_eq (block / 32) (first / 32) && nat_eq (bit_at (bits * 2 ^ (first % 32) % 2 ^ 32) (block % 32)) 1)
    || (nat_eq (block / 32) (first / 32 + 1) && nat_eq (bit_at (bits * 2 ^ (first % 32) / 2 ^ 32) (block % 32)) 1))
    ≡ is_given first bits block
in_two_words first bits block fit =
    let few : block % 32 < 32 = omega arith in
    let low = ap (λ (n : ℕ). nat_eq n 1) (bit_at-mod (bits * 2 ^ (first % 32)) 32 (block % 32) few) ∙ bit_at-shifted bits (first % 32) (block % 32) in
    let high = ap (λ (n : ℕ). nat_eq n 1) (bit_at-div (bits * 2 ^ (first % 32)) 32 (block % 32)) ∙ bit_at-shifted bits (first % 32) (32 + block % 32) in
    elim (eqb_tells (block / 32) (first / 32)) [
      | inl here ↦
          let at : block / 32 ≡ first / 32 = here.1 in
          let next : nat_eq (block / 32) (first / 32 + 1) ≡ false = grind (arith, nat_tests) in
          let same : leb (first % 32) (block % 32) ≡ leb first block = grind (arith, nat_tests) in
          let away : block % 32 - first % 32 ≡ block - first = omega arith in
          pick_first (nat_eq (block / 32) (first / 32)) _ (nat_eq (block / 32) (first / 32 + 1)) _ (is_given first bits block) here.0 next (low ∙ ap₂ (λ (b : Bool) (n : ℕ). b && nat_eq (bit_at bits n) 1) same away)
      | inr elsewhere ↦ elim (eqb_tells (block / 32) (first / 32 + 1)) [
        | inl there ↦
            let at : block / 32 ≡ first / 32 + 1 = there.1 in
            let same : leb (first % 32) (32 + block % 32) ≡ leb first block = grind (arith, nat_tests) in
            let away : 32 + block % 32 - first % 32 ≡ block - first = omega arith in
            pick_second (nat_eq (block / 32) (first / 32)) _ (nat_eq (block / 32) (first / 32 + 1)) _ (is_given first bits block) elsewhere.0 there.0 (high ∙ ap₂ (λ (b : Bool) (n : ℕ). b && nat_eq (bit_at bits n) 1) same away)
        | inr beyond ↦ pick_neither (nat_eq (block / 32) (first / 32)) _ (nat_eq (block / 32) (first / 32 + 1)) _ (is_given first bits block) elsewhere.0 beyond.0 (outside first bits block fit elsewhere.1 beyond.1)
      ]
    ]

-- the words with the bits of the blocks from one on
abbrev pub with_both : List ℕ → ℕ → ℕ → List ℕ
with_both words first bits =
    with_bits (with_bits words (first / 32) (bits * 2 ^ (first % 32) % 2 ^ 32)) (first / 32 + 1) (bits * 2 ^ (first % 32) / 2 ^ 32)

-- a block is a member then if it was one, or its bit is 1
pub contains-with_both : (words : List ℕ) (first bits block : ℕ) → AreWords words → AreWords (with_both words first bits) → bits < 2 ^ 32
    → set.contains (marked_blocks (with_both words first bits)) block ≡ (set.contains (marked_blocks words) block || (ltb block BLOCKS && is_given first bits block))
contains-with_both words first bits block are still fit =
    elim (cases_lt block BLOCKS) [
      | inl held ↦
          let all = are.all in
          let once = with_bits words (first / 32) (bits * 2 ^ (first % 32) % 2 ^ 32) in
          let long = length-set words (first / 32) (bit_or (get_or words (first / 32) 0) (bits * 2 ^ (first % 32) % 2 ^ 32)) in
          let within : true ≡ ltb block BLOCKS = grind (arith, nat_tests) in
          contains-held (with_both words first bits) block still
          ∙ word_marked once (first / 32 + 1) (bits * 2 ^ (first % 32) / 2 ^ 32) block (omega arith)
          ∙ ap (λ (b : Bool). b || (nat_eq (block / 32) (first / 32 + 1) && nat_eq (bit_at (bits * 2 ^ (first % 32) / 2 ^ 32) (block % 32)) 1)) (word_marked words (first / 32) (bits * 2 ^ (first % 32) % 2 ^ 32) block (omega arith))
          ∙ or_assoc (is_marked words block) _ _
          ∙ ap (λ (b : Bool). is_marked words block || b) (in_two_words first bits block fit)
          ∙ ap₂ (λ (b within : Bool). b || (within && is_given first bits block)) (sym (contains-held words block are)) within
      | inr past ↦
          let beyond : ltb block BLOCKS ≡ false = grind (arith, nat_tests) in
          let none : (xs : List ℕ) → set.contains (marked_blocks xs) block ≡ false = λ xs. contains-marked_below BLOCKS xs block ∙ ap (λ (b : Bool). b && is_marked xs block) beyond in
          none (with_both words first bits)
          ∙ ap₂ (λ (b within : Bool). b || (within && is_given first bits block)) (sym (none words)) (sym beyond)
    ]
