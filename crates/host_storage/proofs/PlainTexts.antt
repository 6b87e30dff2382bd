-- ASCII without controls is shown as it is in JSON.
use Rattle.std.proofs.Common.{◌≡◌, ℕ, ◌≤◌, ◌<◌, Bool, true, false, List, [], ◌∷◌, ◌++◌, take, drop, refl, sym, ap, ap₂, ◌∙◌, arith, take-append-drop}
use Rattle.std.specs.Prelude.{nat_le, ◌&&◌, Some}
use Rattle.std.specs.List.{list_all}
use Rattle.std.proofs.lemmas.Bool.{agree_below_at, lt-ltb, leb-true}
use Rattle.host_storage.specs.Shown.{following_count, character_number, is_hidden, shown_character, shown_after, shown_in, is_plain}
use Rattle.host_storage.specs.declared.medium.Medium.TheVariants.{Json}

-- both sides of a test that passes
and_left : (a b : Bool) → (a && b) ≡ true → a ≡ true
and_left true b is = refl
and_left false b is = is

and_right : (a b : Bool) → (a && b) ≡ true → b ≡ true
and_right true b is = is
and_right false b is = absurd (cc)

-- a plain byte is a character of ASCII
plain_is_low : (byte : ℕ) → is_plain byte ≡ true → byte < 128
plain_is_low byte plain = let most : byte ≤ 0x7E = leb-true byte 0x7E (and_right (nat_le 0x20 byte) (nat_le byte 0x7E) plain) in omega arith

-- it begins a character of which it is all
plain_is_all : (byte : ℕ) (rest : List ℕ) → is_plain byte ≡ true → following_count byte rest ≡ Some 0
unfolding following_count
plain_is_all byte rest plain = rw (lt-ltb byte 0x80 (plain_is_low byte plain)) refl

-- it isn't hidden, by a test of all 128
plain_is_shown : (byte : ℕ) → is_plain byte ≡ true → is_hidden byte ≡ false
plain_is_shown byte plain = shown (is_plain byte) (is_hidden byte) (agree_below_at (λ b. is_plain b && is_hidden b) (λ _. false) 128 byte refl (plain_is_low byte plain)) plain
  where
    shown : (plain hidden : Bool) → (plain && hidden) ≡ false → plain ≡ true → hidden ≡ false
    shown true hidden both is = both
    shown false hidden both is = absurd (cc)

-- so it is shown as it is
plain_byte : (byte : ℕ) → is_hidden byte ≡ false → shown_character Json byte (byte ∷ []) ≡ byte ∷ []
unfolding shown_character
plain_byte byte shown = rw shown refl

-- plain bytes are shown as they are
pub plain_text : (bytes : List ℕ) → list_all is_plain bytes ≡ true → shown_in Json bytes ≡ bytes
unfolding shown_after character_number
plain_text [] plain = refl
plain_text (byte ∷ rest) plain =
    let here : is_plain byte ≡ true = and_left (is_plain byte) (list_all is_plain rest) plain in
    let more = plain_text rest (and_right (is_plain byte) (list_all is_plain rest) plain) in
    rw (plain_is_all byte rest here) (ap₂ (λ (one all : List ℕ). one ++ all) (plain_byte byte (plain_is_shown byte here)) more)

-- a text whose part from a place on is plain is as that part is shown
pub plain_from : (start : ℕ) (text : List ℕ) → list_all is_plain (drop start text) ≡ true → text ≡ take start text ++ shown_in Json (drop start text)
plain_from start text plain = sym (take-append-drop start text) ∙ ap (λ (part : List ℕ). take start text ++ part) (sym (plain_text (drop start text) plain))
