-- the bits of the blocks from one on, which lie in the word of that block and in the next one
use Rattle.std.proofs.Common.{◌≡◌, ℕ, ◌+◌, ◌-◌, ◌*◌, ◌/◌, ◌%◌, ◌^◌, ◌<◌, ◌&&◌, Bool, true, false, cond, ltb, nat_eq, List, length, get_or, sym, ap, ◌∙◌, inl, inr, arith}
use Rattle.std.specs.Int.{bit_at}
use Rattle.std.specs.FinSet as set
use Rattle.std.proofs.Math.Nat.{mod-lt}
use Rattle.std.proofs.lemmas.Bool.{cases_lt}
use Rattle.std.proofs.lemmas.Bool.Decides.{nat_tests}
use Rattle.std.proofs.lemmas.List.{get_or_past}
use Rattle.std.proofs.lemmas.List.Elements.{All-get_or}
use Rattle.std.proofs.lemmas.Nat.{pow_pos, div-add-mod'}
use Rattle.std.proofs.lemmas.Nat.Bits.{bit_at-lt, bit_at-zero, bit_at_cat_low, bit_at_cat_high}
use Rattle.d64_image.specs.declared.block.TheConstants.{BLOCKS}
use Rattle.d64_image.specs.BlockSet.{is_marked, marked_blocks, AreWords}
use Rattle.d64_image.specs.Marks.{contains-marked_below, as_bit, bit_tested}

-- a bit among the lowest ones
pub bit_at-mod : (n count bit : ℕ) → bit < count → bit_at (n % 2 ^ count) bit ≡ bit_at n bit
bit_at-mod n count bit h =
    sym (bit_at_cat_low (n / 2 ^ count) count (n % 2 ^ count) bit h) ∙ ap (λ (m : ℕ). bit_at m bit) (div-add-mod' n (2 ^ count))

-- a bit after the lowest ones are dropped
pub bit_at-div : (n count bit : ℕ) → bit_at (n / 2 ^ count) bit ≡ bit_at n (count + bit)
bit_at-div n count bit =
    let e : count + bit - count ≡ bit = omega arith in
    ap (bit_at (n / 2 ^ count)) (sym e)
    ∙ sym (bit_at_cat_high (n / 2 ^ count) count (n % 2 ^ count) (count + bit) (mod-lt n (pow_pos count)) (omega arith))
    ∙ ap (λ (m : ℕ). bit_at m (count + bit)) (div-add-mod' n (2 ^ count))

-- a number is a member if it is marked
pub contains-held : (words : List ℕ) (block : ℕ) → AreWords words → set.contains (marked_blocks words) block ≡ is_marked words block
contains-held words block are =
    contains-marked_below BLOCKS words block
    ∙ elim (cases_lt block BLOCKS) [
      | inl within ↦ ap (λ (b : Bool). b && is_marked words block) (let e : ltb block BLOCKS ≡ true = grind (arith, nat_tests) in e)
      | inr past ↦
          let all = are.all in
          let none : is_marked words block ≡ false =
          ap (λ (word : ℕ). nat_eq (bit_at word (block % 32)) 1) (get_or_past words (block / 32) 0 (omega arith)) ∙ ap (λ (b : ℕ). nat_eq b 1) (bit_at-zero (block % 32)) in
          ap (λ (b : Bool). ltb block BLOCKS && b) none ∙ (let e : (ltb block BLOCKS && false) ≡ false = grind (arith, nat_tests) in e) ∙ sym none
    ]

-- each word has 32 bits, and so has the zero past the last one
pub word_fits : (words : List ℕ) (place : ℕ) → AreWords words → get_or words place 0 < 2 ^ 32
word_fits words place are =
    elim (cases_lt place (length words)) [
      | inl held ↦ All-get_or (λ word. word < 2 ^ 32) words place 0 held are.fit
      | inr past ↦ let z = get_or_past words place 0 past in omega arith
    ]

-- a word and the next one, as one number
abbrev pub two_words : List ℕ → ℕ → ℕ
two_words words place = get_or words (place + 1) 0 * 2 ^ 32 + get_or words place 0

-- its bits are those of the blocks of the two words
bit_of_two : (words : List ℕ) (place bit : ℕ) → AreWords words → bit < 64
    → bit_at (two_words words place) bit ≡ bit_at (get_or words ((32 * place + bit) / 32) 0) ((32 * place + bit) % 32)
bit_of_two words place bit are few =
    elim (cases_lt bit 32) [
      | inl low ↦
          let at : place ≡ (32 * place + bit) / 32 = omega arith in
          let on : bit ≡ (32 * place + bit) % 32 = omega arith in
          bit_at_cat_low (get_or words (place + 1) 0) 32 (get_or words place 0) bit low
          ∙ ap (λ (k : ℕ). bit_at (get_or words k 0) bit) at
          ∙ ap (bit_at (get_or words ((32 * place + bit) / 32) 0)) on
      | inr high ↦
          let at : place + 1 ≡ (32 * place + bit) / 32 = omega arith in
          let on : bit - 32 ≡ (32 * place + bit) % 32 = omega arith in
          bit_at_cat_high (get_or words (place + 1) 0) 32 (get_or words place 0) bit (word_fits words place are) high
          ∙ ap (λ (k : ℕ). bit_at (get_or words k 0) (bit - 32)) at
          ∙ ap (bit_at (get_or words ((32 * place + bit) / 32) 0)) on
    ]

-- the 32 bits from that of a block on say which blocks are members
pub bits_decide : (words : List ℕ) (first bit : ℕ) → AreWords words → bit < 32
    → bit_at (two_words words (first / 32) / 2 ^ (first % 32) % 2 ^ 32) bit ≡ cond (set.contains (marked_blocks words) (first + bit)) 1 0
bits_decide words first bit are few =
    let same : 32 * (first / 32) + (first % 32 + bit) ≡ first + bit = omega arith in
    let word : ℕ = get_or words ((first + bit) / 32) 0 in
    bit_at-mod (two_words words (first / 32) / 2 ^ (first % 32)) 32 bit few
    ∙ bit_at-div (two_words words (first / 32)) (first % 32) bit
    ∙ bit_of_two words (first / 32) (first % 32 + bit) are (omega arith)
    ∙ ap (λ (k : ℕ). bit_at (get_or words (k / 32) 0) (k % 32)) same
    ∙ sym (bit_tested (bit_at word ((first + bit) % 32)) (bit_at-lt word ((first + bit) % 32)))
    ∙ ap as_bit (sym (contains-held words (first + bit) are))
