-- Texts as they are written in elements, a byte at a time.
use Rattle.std.proofs.Common.{◌≡◌, ℕ, ◌+◌, ◌-◌, ◌<◌, ◌≤◌, Bool, true, false, List, [], ◌∷◌, ◌++◌, length, drop, get_or, sym, ap, ◌∙◌, append_assoc, append-nil, arith}
use Rattle.std.specs.Prelude.{map, nat_le, if◌then◌else◌, codes}
use Rattle.std.specs.List.{range_with_len}
use Rattle.std.proofs.lemmas.List.{at_drop_more, at_drop_all}
use Rattle.std.proofs.lemmas.List.FromFn.{map-range_with_len_more}
use Rattle.std.proofs.lemmas.Bool.Decides.{nat_tests}
use Rattle.out_markup.specs.Markup.{escaped_byte, escaped_within}

-- a byte that fits
within-limit : (limit byte : ℕ) (text : List ℕ) → length (escaped_byte byte) ≤ limit
    → escaped_within limit (byte ∷ text) ≡ escaped_byte byte ++ escaped_within (limit - length (escaped_byte byte)) text
unfolding escaped_within
within-limit limit byte text fits =
    let e : nat_le (length (escaped_byte byte)) limit ≡ true = grind (arith, nat_tests) in
    ap (λ (t : Bool). if t then escaped_byte byte ++ escaped_within (limit - length (escaped_byte byte)) text else codes "..") e

-- a byte that does not fit
within-full : (limit byte : ℕ) (text : List ℕ) → limit < length (escaped_byte byte) → escaped_within limit (byte ∷ text) ≡ codes ".."
unfolding escaped_within
within-full limit byte text full =
    let e : nat_le (length (escaped_byte byte)) limit ≡ false = grind (arith, nat_tests) in
    ap (λ (t : Bool). if t then escaped_byte byte ++ escaped_within (limit - length (escaped_byte byte)) text else codes "..") e

-- nothing is left of a text
within-end : (limit : ℕ) (text : List ℕ) (index : ℕ) → length text ≤ index → escaped_within limit (drop index text) ≡ []
unfolding escaped_within
within-end limit text index past = at_drop_all (escaped_within limit) text index past

-- one byte more
pub one_more : (before after whole text : List ℕ) (left next index d : ℕ) → index < length text
    → length (escaped_byte (get_or text index d)) ≤ left → next ≡ left - length (escaped_byte (get_or text index d))
    → after ≡ before ++ escaped_byte (get_or text index d)
    → before ++ escaped_within left (drop index text) ≡ whole → after ++ escaped_within next (drop (index + 1) text) ≡ whole
one_more before after whole text left next index d within fits less more so =
    let byte = get_or text index d in
    let rest = drop (index + 1) text in
    ap (λ (t : List ℕ). t ++ escaped_within next rest) more
    ∙ append_assoc before (escaped_byte byte) (escaped_within next rest)
    ∙ ap (λ (t : List ℕ). before ++ t)
    (ap (λ (n : ℕ). escaped_byte byte ++ escaped_within n rest) less
    ∙ sym (within-limit left byte rest fits)
    ∙ sym (at_drop_more (escaped_within left) text index d within))
    ∙ so

-- it does not fit
pub no_more : (before after whole text : List ℕ) (left index d : ℕ) → index < length text → left < length (escaped_byte (get_or text index d))
    → after ≡ before ++ codes ".." → before ++ escaped_within left (drop index text) ≡ whole → after ≡ whole
no_more before after whole text left index d within full more so =
    more
    ∙ ap (λ (t : List ℕ). before ++ t)
    (sym (within-full left (get_or text index d) (drop (index + 1) text) full) ∙ sym (at_drop_more (escaped_within left) text index d within))
    ∙ so

-- all of it is there
pub all_there : (before whole text : List ℕ) (left index : ℕ) → length text ≤ index → before ++ escaped_within left (drop index text) ≡ whole → before ≡ whole
all_there before whole text left index past so =
    sym (append-nil before) ∙ ap (λ (t : List ℕ). before ++ t) (sym (within-end left text index past)) ∙ so

-- one byte more of a text that XML holds
pub held_more : (f : ℕ → ℕ) (before after old : List ℕ) (place byte : ℕ) → before ≡ old ++ map f (range_with_len 0 place) → byte ≡ f place
    → after ≡ before ++ byte ∷ [] → after ≡ old ++ map f (range_with_len 0 (place + 1))
held_more f before after old place byte so is more =
    let here : 0 + place ≡ place = omega arith in
    more ∙ ap (λ (t : List ℕ). t ++ byte ∷ []) so
    ∙ append_assoc old (map f (range_with_len 0 place)) (byte ∷ [])
    ∙ ap (λ (t : List ℕ). old ++ t)
    (ap (λ (b : ℕ). map f (range_with_len 0 place) ++ b ∷ []) is ∙ sym (map-range_with_len_more f 0 place place here))
