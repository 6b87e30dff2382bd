use Rattle.std.proofs.Common.{ℕ, List, [], ◌∷◌, ◌++◌, refl, sym, ◌∙◌, subst, inl, inr, arith}
use Rattle.std.proofs.lemmas.List.{append-nil}
use Rattle.cbm_text.specs.Crunching.{Crunched}
use Rattle.cbm_text.specs.declared.mode.Mode.{Mode}
use Rattle.cbm_text.proofs.CodesSoFar.{CrunchedSoFar, crunched_nothing, crunched_more, crunched_whole, crunched_never, crunched_anyhow, first_shrinks, not_empty, empty}
use Rattle.cbm_text.proofs.LinePieces.{crunched_by_modes, modes_of_crunched}
use Rattle.cbm_text.proofs.codes.crunch_bytes.Goals as goal

pub loop-left-init : goal.loop-left-init
loop-left-init c = rw c.in_ok-codes.ensures.items (crunched_nothing c.args.bytes.now)

pub returns-in_default : goal.returns-in_default
returns-in_default c =
    let left = c.loop-left.left.now in
    λ codes crunched. crunched_never c.args.bytes.now c.loop-left.codes.items c.loop-left.mode left c.loop-left.invariant (not_empty left c.loop-left-test.ensures) c.in_default.ensures codes
    (modes_of_crunched c.args.bytes.now codes crunched)

pub loop-left-smaller : goal.loop-left-smaller
loop-left-smaller c =
    let left = c.loop-left.left.now in
    first_shrinks c.loop-left.mode left c.in-Some.code c.in-Some.rest.now (not_empty left c.loop-left-test.ensures) c.in-Some.ensures

pub loop-left-preserved : goal.loop-left-preserved
loop-left-preserved c =
    let left = c.loop-left.left.now in
    let rest = c.in-Some.rest.now in
    let text = c.args.bytes.now in
    rw c.in_ok-push.ensures.items
    (subst (λ (m : Mode). CrunchedSoFar text (c.loop-left.codes.items ++ c.in-Some.code ∷ []) m rest) (sym c.after-mode.ensures)
    (crunched_more text c.loop-left.codes.items c.loop-left.mode left c.in-Some.code rest c.loop-left.invariant (not_empty left c.loop-left-test.ensures) c.in-Some.ensures))

pub returns-then-crunches_anyhow : goal.returns-then-crunches_anyhow
returns-then-crunches_anyhow c =
    let text = c.args.bytes.now in
    let codes = c.loop-left.codes.items in
    let anyhow = crunched_anyhow text codes c.loop-left.mode c.loop-left.left.now c.loop-left.invariant (sym c.crunches_anyhow.ensures ∙ c.if-crunches_anyhow.true) in
    record { more = anyhow.0; crunched = crunched_by_modes text (codes ++ anyhow.0) anyhow.1; whole = inr (omega arith) }

pub returns : goal.returns
returns c =
    let codes = c.loop-left.codes.items in
    let whole = crunched_whole c.args.bytes.now codes c.loop-left.mode c.loop-left.left.now c.loop-left.invariant (empty c.loop-left.left.now c.loop-left-test.ensures) in
    record {
      more = [];
      crunched = subst (λ (w : List ℕ). Crunched c.args.bytes.now w) (sym (append-nil codes)) (crunched_by_modes c.args.bytes.now codes whole);
      whole = inl refl;
    }
