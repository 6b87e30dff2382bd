use Rattle.d64_merge.proofs.MergedOrders.{order_law}
use Rattle.d64_merge.proofs.laws.order_does_not_matter.Goals as goal

pub returns : goal.returns
returns c = order_law
