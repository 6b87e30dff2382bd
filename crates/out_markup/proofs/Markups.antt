-- No escaped text makes markup.
use Rattle.std.proofs.Common.{◌≡◌, ◌≢◌, ℕ, ◌-◌, Bool, true, false, List, [], ◌∷◌, ◌++◌, length, inl, inr, refl, sym, subst, arith}
use Rattle.std.specs.Prelude.{nat_le, ◌==◌, ◌&&◌, not, if◌then◌else◌, codes}
use Rattle.std.proofs.lemmas.Bool.{cases_eq}
use Rattle.std.proofs.lemmas.Bool.Decides.{nat_tests}
use Rattle.out_markup.specs.Markup.{entities, escaped_byte, escaped_text, escaped_within, IsPlain, begins_entity, IsHarmless, NoNameMakesMarkup, NoPartMakesMarkup}

-- a byte that neither begins an entity nor makes markup
abbrev is_plain : ℕ → Bool
is_plain byte = not (byte == 38) && (not (byte == 60) && (not (byte == 62) && (not (byte == 34) && not (byte == 39))))

plain : (byte : ℕ) → is_plain byte ≡ true → IsPlain byte
plain byte passes = grind arith

no_ampersand : (byte : ℕ) → is_plain byte ≡ true → byte ≢ 38
no_ampersand byte passes = grind arith

-- such a byte before a text
before_text : (byte : ℕ) (text : List ℕ) → is_plain byte ≡ true → IsHarmless text → IsHarmless (byte ∷ text)
before_text byte text passes rest = (plain byte passes, (λ is. absurd (no_ampersand byte passes is)), rest)

-- such bytes before a text
abbrev are_plain : List ℕ → Bool
are_plain [] = true
are_plain (byte ∷ bytes) = is_plain byte && are_plain bytes

and_left : (a b : Bool) → (a && b) ≡ true → a ≡ true
and_left true b is = refl
and_left false b is = is

and_right : (a b : Bool) → (a && b) ≡ true → b ≡ true
and_right true b is = is
and_right false b is = absurd (cc)

all_before_text : (bytes text : List ℕ) → are_plain bytes ≡ true → IsHarmless text → IsHarmless (bytes ++ text)
all_before_text [] text passes rest = rest
all_before_text (byte ∷ bytes) text passes rest =
    before_text byte (bytes ++ text) (and_left (is_plain byte) (are_plain bytes) passes) (all_before_text bytes text (and_right (is_plain byte) (are_plain bytes) passes) rest)

-- a `&` that begins an entity
ampersand : (text : List ℕ) → begins_entity (38 ∷ text) ≡ true → IsHarmless text → IsHarmless (38 ∷ text)
ampersand text begins rest =
    (((λ is. omega (arith, is)), (λ is. omega (arith, is)), (λ is. omega (arith, is)), (λ is. omega (arith, is))), (λ _. begins), rest)

-- each byte of a text, before the others
harmless_byte : (byte : ℕ) (text : List ℕ) → IsHarmless text → IsHarmless (escaped_byte byte ++ text)
unfolding entities escaped_byte
harmless_byte byte text rest =
    elim (cases_eq byte 38) [
      | inl is ↦ subst (λ (b : ℕ). IsHarmless (escaped_byte b ++ text)) (sym is) (ampersand (codes "amp;" ++ text) refl (all_before_text (codes "amp;") text refl rest))
      | inr a ↦ elim (cases_eq byte 60) [
        | inl is ↦ subst (λ (b : ℕ). IsHarmless (escaped_byte b ++ text)) (sym is) (ampersand (codes "lt;" ++ text) refl (all_before_text (codes "lt;") text refl rest))
        | inr b ↦ elim (cases_eq byte 62) [
          | inl is ↦ subst (λ (b : ℕ). IsHarmless (escaped_byte b ++ text)) (sym is) (ampersand (codes "gt;" ++ text) refl (all_before_text (codes "gt;") text refl rest))
          | inr c ↦ elim (cases_eq byte 34) [
            | inl is ↦ subst (λ (b : ℕ). IsHarmless (escaped_byte b ++ text)) (sym is) (ampersand (codes "quot;" ++ text) refl (all_before_text (codes "quot;") text refl rest))
            | inr d ↦ elim (cases_eq byte 39) [
              | inl is ↦ subst (λ (b : ℕ). IsHarmless (escaped_byte b ++ text)) (sym is) (ampersand (codes "apos;" ++ text) refl (all_before_text (codes "apos;") text refl rest))
              | inr e ↦
                  let itself : escaped_byte byte ≡ byte ∷ [] = grind (arith, nat_tests) in
                  let passes : is_plain byte ≡ true = grind (arith, nat_tests) in
                  subst (λ (bytes : List ℕ). IsHarmless (bytes ++ text)) (sym itself) (before_text byte text passes rest)
            ]
          ]
        ]
      ]
    ]

pub no_name : NoNameMakesMarkup
unfolding escaped_text
no_name [] = tt
no_name (byte ∷ text) = harmless_byte byte (escaped_text text) (no_name text)

-- whichever of two texts it is
either : (first : Bool) (one other : List ℕ) → IsHarmless one → IsHarmless other → IsHarmless (if first then one else other)
either true one other a b = a
either false one other a b = b

pub no_part : NoPartMakesMarkup
unfolding escaped_within
no_part limit [] = tt
no_part limit (byte ∷ text) =
    let left = limit - length (escaped_byte byte) in
    either (nat_le (length (escaped_byte byte)) limit) (escaped_byte byte ++ escaped_within left text) (codes "..")
    (harmless_byte byte (escaped_within left text) (no_part left text)) (all_before_text (codes "..") [] refl tt)
