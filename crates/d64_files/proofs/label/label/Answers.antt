use Rattle.std.proofs.Common.{refl, arith, rules, ◌≡◌}
use Rattle.std.proofs.lemmas.Grind.{common_steps}
use Rattle.d64_files.specs.Label.{IsLabel}
use Rattle.d64_files.proofs.LabelTests.{no_label, label_from_bytes}
use Rattle.d64_files.proofs.label.label.Goals as goal

pub returns-then-holds_any-clause-accepted : goal.returns-then-holds_any-clause-accepted
returns-then-holds_any-clause-accepted c =
    (λ e. cc, λ label. absurd (no_label _ _ (c.holds_any.ensures.some.0 c.if-holds_any.true) label))

-- the bytes have passed the three tests
passed : (c : goal.Else-holds_any) → IsLabel c.args.forbidden.now c.args.bytes.now
passed c =
    label_from_bytes c.args.forbidden.now c.args.bytes.now
    (grind (arith, common_steps)) (grind (arith, common_steps)) (search rules) (λ i. omega (arith, c.type_inv.bytes i))

pub returns-clause-accepted : goal.returns-clause-accepted
returns-clause-accepted c = (λ _. passed c, λ _. refl)

pub returns-clause-label : goal.returns-clause-label
returns-clause-label c =
    let same : c.try_extend_from_slice.new.self.items ≡ c.args.bytes.now = grind (arith, common_steps) in
    rw same (passed c)
