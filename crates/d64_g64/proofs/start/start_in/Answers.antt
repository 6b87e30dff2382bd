use Rattle.std.proofs.Common.{◌≡◌, ℕ, ◌+◌, ◌-◌, ◌*◌, ◌/◌, ◌%◌, ◌^◌, ◌<◌, ◌≤◌, Bool, cond, [], ◌∷◌, length, refl, sym, ap, ◌∙◌, subst, inl}
use Rattle.std.proofs.lemmas.Bool.{eq-eqb, ne_eqb}
use Rattle.d64_g64.specs.Circle.{byte_on}
use Rattle.d64_g64.proofs.Circles.{three}
use Rattle.d64_g64.proofs.StartLists.{starts_in_byte, no_start_in_byte, no_start_after, last_of_three}
use Rattle.d64_g64.proofs.start.start_in.Goals as goal

pub returns-then-bits-zero-eq2046 : goal.returns-then-bits-zero-eq2046
returns-then-bits-zero-eq2046 c =
    let track = c.args.track.now in
    let some = c.in-Some.ensures.some in
    let back = c.two_before.result in
    let last = last_of_three track c.args.at back (λ k. (c.type_inv.track k).fits) c.requires.at c.two_before.ensures.value in
    let bits : three track back / 2 ^ (7 - c.in-Some.zero) % 2048 ≡ 2046 = ap (λ (x : ℕ). x / 2 ^ (7 - c.in-Some.zero) % 2048) (sym c.three_bytes-bits.ensures.value) ∙ c.if-bits-zero-eq2046.true in
    sym (starts_in_byte track c.args.at back c.in-Some.zero (λ k. (c.type_inv.track k).fits) c.requires.track.0 some.0 c.two_before.ensures.value
    (subst (λ (x : ℕ). 256 - 2 ^ (8 - c.in-Some.zero) ≤ x) (sym last) some.1)
    (subst (λ (x : ℕ). x < 256 - 2 ^ (7 - c.in-Some.zero)) (sym last) some.2)
    ∙ ap (λ (b : Bool). cond b ((8 * c.args.at + c.in-Some.zero) ∷ []) []) (eq-eqb _ _ bits))

pub returns-else-bits-zero-eq2046 : goal.returns-else-bits-zero-eq2046
returns-else-bits-zero-eq2046 c =
    let track = c.args.track.now in
    let some = c.in-Some.ensures.some in
    let back = c.two_before.result in
    let last = last_of_three track c.args.at back (λ k. (c.type_inv.track k).fits) c.requires.at c.two_before.ensures.value in
    sym (starts_in_byte track c.args.at back c.in-Some.zero (λ k. (c.type_inv.track k).fits) c.requires.track.0 some.0 c.two_before.ensures.value
    (subst (λ (x : ℕ). 256 - 2 ^ (8 - c.in-Some.zero) ≤ x) (sym last) some.1)
    (subst (λ (x : ℕ). x < 256 - 2 ^ (7 - c.in-Some.zero)) (sym last) some.2)
    ∙ ap (λ (b : Bool). cond b ((8 * c.args.at + c.in-Some.zero) ∷ []) [])
    (ne_eqb (three track back / 2 ^ (7 - c.in-Some.zero) % 2048) 2046
    (λ bits. c.if-bits-zero-eq2046.false (ap (λ (x : ℕ). x / 2 ^ (7 - c.in-Some.zero) % 2048) c.three_bytes-bits.ensures.value ∙ bits))))

pub returns-in-None : goal.returns-in-None
returns-in-None c =
    let track = c.args.track.now in
    let back = c.args.at + 2 * length track - 2 in
    let last = last_of_three track c.args.at back (λ k. (c.type_inv.track k).fits) c.requires.at (inl refl) in
    sym (no_start_in_byte track c.args.at back (λ k. (c.type_inv.track k).fits) c.requires.track.0 (inl refl) (last ∙ c.in-None.ensures.none))

pub returns-then-byte_before-ne7 : goal.returns-then-byte_before-ne7
returns-then-byte_before-ne7 c =
    let track = c.args.track.now in
    no_start_after track c.args.at (λ k. (c.type_inv.track k).fits) c.requires.track.0
    (λ (ones : byte_on track (c.args.at + 2 * length track - 1) % 8 ≡ 7). c.if-byte_before-ne7.true (ap (λ (x : ℕ). x % 8) c.byte_before.ensures ∙ ones))
