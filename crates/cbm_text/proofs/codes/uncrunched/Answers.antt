use Rattle.std.proofs.Common.{◌<◌, ℕ, List, [], ◌∷◌, ◌++◌, length, sym, ap, subst, append_assoc, arith}
use Rattle.cbm_text.specs.declared.mode.Mode.{Mode}
use Rattle.cbm_text.specs.declared.mode.Mode.TheVariants.{Free}
use Rattle.cbm_text.specs.Causes.{StopsAfter}
use Rattle.cbm_text.proofs.CodesSoFar.{empty, first_shrinks, not_empty, nothing_first}
use Rattle.cbm_text.proofs.Stops.{stops_now, stops_one}
use Rattle.cbm_text.proofs.codes.uncrunched.Goals as goal

pub loop-mode-init : goal.loop-mode-init
loop-mode-init c = record { done = []; stops = λ codes rest stops. stops; shorter = omega arith }

pub returns-in_default-clause-stops : goal.returns-in_default-clause-stops
returns-in_default-clause-stops c =
    let i = c.loop-mode.invariant in
    stops_now c.loop-mode.mode c.args.bytes.now i.done c.loop-mode.left.now i.stops c.in_default.ensures

pub loop-mode-smaller : goal.loop-mode-smaller
loop-mode-smaller c =
    let left = c.loop-mode.left.now in
    first_shrinks c.loop-mode.mode left c.in-Some.found c.in-Some.rest.now (not_empty left c.loop-mode-test.ensures) c.in-Some.ensures

pub loop-mode-preserved : goal.loop-mode-preserved
loop-mode-preserved c =
    let i = c.loop-mode.invariant in
    let left = c.loop-mode.left.now in
    let code = c.in-Some.found in
    let rest = c.in-Some.rest.now in
    let shrinks = first_shrinks c.loop-mode.mode left code rest (not_empty left c.loop-mode-test.ensures) c.in-Some.ensures in
    record {
      done = i.done ++ code ∷ [];
      stops = λ codes end stops.
          subst (λ (w : List ℕ). StopsAfter Free c.args.bytes.now w end) (sym (append_assoc i.done (code ∷ []) codes))
          (i.stops (code ∷ codes) end
          (stops_one c.loop-mode.mode left code rest codes end c.in-Some.ensures (subst (λ (m : Mode). StopsAfter m rest codes end) c.after-mode.ensures stops)));
      shorter = omega (arith, i.shorter, shrinks);
    }

pub returns-clause-stops : goal.returns-clause-stops
returns-clause-stops c =
    let i = c.loop-mode.invariant in
    let left = c.loop-mode.left.now in
    let none : length left < 1 = omega (arith, ap length (empty left c.loop-mode-test.ensures)) in
    stops_now c.loop-mode.mode c.args.bytes.now i.done left i.stops (nothing_first c.loop-mode.mode left none)
