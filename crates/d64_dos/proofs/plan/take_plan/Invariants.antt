use Rattle.std.proofs.Common.{◌≡◌, length}
use Rattle.d64_dos.proofs.Plans.{PlanGoesOn}
use Rattle.d64_dos.proofs.plan.take_plan.Given as goal

abbrev pub invariant-loop : goal.invariant-loop
invariant-loop l = record { so : PlanGoesOn l.fn.free l.free l.count l.blocks.items l.last; taken : length l.blocks.items ≡ l.counter }
