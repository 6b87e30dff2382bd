-- Copies that agree
use Rattle.std.proofs.Common.{◌≡◌, ℕ, Bool, true, false, ◌&&◌, nat_eq, List, [], ◌∷◌, refl, sym, ap, ap₂, ◌∙◌, inl, inr}
use Rattle.std.specs.Cmp.Lexicographic.{pointwise}
use Rattle.std.proofs.lemmas.Bool.Decides.{eqb_tells}
use Rattle.std.proofs.lemmas.Cmp.{nat_list_eq_equiv}
use Rattle.d64_image.specs.Image.{sector_at}
use Rattle.d64_survey.specs.Dump.{DumpView}
use Rattle.d64_merge.specs.Copies.{is_good, agree}

pub both_true : (a b : Bool) → (a && b) ≡ true → (a ≡ true) × (b ≡ true)
both_true true b h = (refl, h)
both_true false b h = (h, absurd (cc))

equal_numbers : (a b : ℕ) → nat_eq a b ≡ true → a ≡ b
equal_numbers a b h = elim (eqb_tells a b) [ inl is ↦ is.1 | inr other ↦ let wrong : true ≡ false = sym h ∙ other.0 in absurd (cc) ]

equal_lists : (xs ys : List ℕ) → pointwise nat_eq xs ys ≡ true → xs ≡ ys
equal_lists [] [] h = refl
equal_lists [] (y ∷ ys) h = absurd (cc)
equal_lists (x ∷ xs) [] h = absurd (cc)
equal_lists (x ∷ xs) (y ∷ ys) h =
    let parts = both_true (nat_eq x y) (pointwise nat_eq xs ys) h in
    ap₂ (λ (n : ℕ) (ns : List ℕ). n ∷ ns) (equal_numbers x y parts.0) (equal_lists xs ys parts.1)

-- they are good, and equal
pub agreeing : (block : ℕ) (one other : DumpView) → agree block one other ≡ true
    → (is_good block one ≡ true) × (is_good block other ≡ true) × (sector_at one.image block ≡ sector_at other.image block)
agreeing block one other h =
    let first = both_true (is_good block one) _ h in
    let second = both_true (is_good block other) _ first.1 in
    (first.0, second.0, equal_lists _ _ second.1)

-- good and equal copies agree
pub agree_by : (block : ℕ) (one other : DumpView) → is_good block one ≡ true → is_good block other ≡ true
    → sector_at one.image block ≡ sector_at other.image block → agree block one other ≡ true
agree_by block one other a b same =
    ap₂ (λ (s t : Bool). s && (t && pointwise nat_eq (sector_at one.image block) (sector_at other.image block))) a b
    ∙ ap (λ (bytes : List ℕ). pointwise nat_eq bytes (sector_at other.image block)) same ∙ nat_list_eq_equiv.refl (sector_at other.image block)
