use Rattle.std.proofs.Common.{◌+◌, ◌<◌, List, ℕ, length, Some, sym, ap, ◌∙◌, arith, subst}
use Rattle.std.specs.Option.{option_map}
use Rattle.std.specs.Ordering.{nat_cmp}
use Rattle.std.specs.FinSet as set
use Rattle.d64_dos.proofs.Plans.{PlanGoesOn, goes_on-start, goes_on-next, goes_on-none, goes_on-end}
use Rattle.d64_dos.proofs.plan.take_plan.Goals as goal

pub loop-init : goal.loop-init
loop-init c = record {
  so =
      subst (λ (taken : List ℕ). PlanGoesOn c.args.free.now c.args.free.now c.args.count taken _) (sym c.clear.ensures)
      (goes_on-start c.args.free.now c.args.count);
  taken = ap length c.clear.ensures;
}

pub push-requires : goal.push-requires
push-requires c = let l = c.loop.invariant.taken in omega arith

pub loop-preserved : goal.loop-preserved
loop-preserved c =
    let l = c.loop.invariant.taken in
    let more : length c.loop.blocks.items < c.args.count = omega arith in
    let start = c.args.free.now in
    let count = c.args.count in
    let next = c.in_ok-next.next in
    record {
      so =
          subst (λ (free : set.FinSet nat_cmp). PlanGoesOn start free count c.push.new.self.items (Some next)) (sym c.remove.ensures.value)
          (subst (λ (taken : List ℕ). PlanGoesOn start (set.remove c.loop.free next) count taken (Some next)) (sym c.push.ensures.items)
          (goes_on-next start c.loop.free count c.loop.blocks.items c.loop.last next more (sym c.pick_after.ensures ∙ c.in_ok-next.was) c.loop.invariant.so));
      taken = c.push.ensures.len ∙ ap (λ (n : ℕ). n + 1) l;
    }

pub returns-in_err-next-clause-plan : goal.returns-in_err-next-clause-plan
returns-in_err-next-clause-plan c =
    let l = c.loop.invariant.taken in
    let more : length c.loop.blocks.items < c.args.count = omega arith in
    ap (option_map (λ _. c.loop.blocks.items)) c.from_residual.ensures
    ∙ sym (goes_on-none c.args.free.now c.loop.free c.args.count c.loop.blocks.items c.loop.last more (sym c.pick_after.ensures ∙ c.in_err-next.was) c.loop.invariant.so)

pub returns-clause-plan : goal.returns-clause-plan
returns-clause-plan c =
    let l = c.loop.invariant.taken in
    sym (goes_on-end c.args.free.now c.loop.free c.args.count c.loop.blocks.items c.loop.last (omega arith) c.loop.invariant.so)

pub returns-clause-left : goal.returns-clause-left
returns-clause-left c = c.loop.invariant.so.left
