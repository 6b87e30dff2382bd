use Rattle.std.proofs.Common.{◌≡◌, ℕ, ◌+◌, ◌*◌, ◌/◌, ◌%◌, ◌<◌, ◌&&◌, Bool, true, eqb, List, [], ◌∷◌, ◌++◌, length, get_or, refl, subst, ap, ap₂, ◌∙◌, append_assoc, arith}
use Rattle.std.specs.List.{list_all, flat_map, range_with_len}
use Rattle.std.proofs.lemmas.Bool.{and_parts, eqb-true}
use Rattle.std.proofs.lemmas.List.Sums.{AllPass-from_list_all}
use Rattle.std.proofs.lemmas.List.FromFn.{get_or-range_with_len, length-range_with_len}
use Rattle.script_text.specs.Dump.{dump_digit, hex_digits}
use Rattle.script_text.proofs.dump.push_hex.Goals as goal

-- the digits of all bytes
abbrev table : List ℕ
table = flat_map hex_digits (range_with_len 0 256)

-- the digits of a byte are at twice its number
abbrev lies : ℕ → Bool
lies byte = eqb (get_or table (2 * byte) 0) (dump_digit (byte / 16)) && eqb (get_or table (2 * byte + 1) 0) (dump_digit (byte % 16))

all_lie : list_all lies (range_with_len 0 256) ≡ true
all_lie = refl

digits_of : (byte : ℕ) → byte < 256 → (get_or table (2 * byte) 0 ≡ dump_digit (byte / 16)) × (get_or table (2 * byte + 1) 0 ≡ dump_digit (byte % 16))
digits_of byte small =
    let long : byte < length (range_with_len 0 256) = omega (arith, length-range_with_len 0 256) in
    let there : lies (get_or (range_with_len 0 256) byte 0) ≡ true = AllPass-from_list_all lies (range_with_len 0 256) all_lie byte 0 long in
    let same : get_or (range_with_len 0 256) byte 0 ≡ byte = get_or-range_with_len 0 256 byte 0 small ∙ (let e : 0 + byte ≡ byte = omega arith in e) in
    let both = and_parts _ _ (subst (λ n. lies n ≡ true) same there) in
    (eqb-true _ _ both.0, eqb-true _ _ both.1)

pub returns-clause-digits : goal.returns-clause-digits
returns-clause-digits c =
    let byte = c.args.byte in
    let old = c.args.lines.now.items in
    let here = digits_of byte c.ranges.byte.fits in
    let first : c.push.new.self.items ≡ old ++ (get_or table (2 * c.from-at.result) 0 ∷ []) = c.push.ensures.items in
    let second : c.push-2.new.self.items ≡ c.push.new.self.items ++ (get_or table (2 * c.from-at.result + 1) 0 ∷ []) = c.push-2.ensures.items in
    second
    ∙ ap₂ (λ (before : List ℕ) (digit : ℕ). before ++ digit ∷ []) first (ap (λ n. get_or table (2 * n + 1) 0) c.from-at.ensures ∙ here.1)
    ∙ append_assoc old (get_or table (2 * c.from-at.result) 0 ∷ []) (dump_digit (byte % 16) ∷ [])
    ∙ ap (λ digit. old ++ digit ∷ dump_digit (byte % 16) ∷ []) (ap (λ n. get_or table (2 * n) 0) c.from-at.ensures ∙ here.0)
