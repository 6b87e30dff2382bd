use Rattle.std.proofs.Common.{◌≡◌, ◌++◌, take}
use Rattle.cmd_catalogue.specs.Sections.{fault_items}
use Rattle.cmd_catalogue.proofs.section.push_fault_items.Given as goal

abbrev pub invariant-loop-fault : goal.invariant-loop-fault
invariant-loop-fault l = l.out.items ≡ l.initial.out.items ++ fault_items l.survey (take l.fault-index l.list)
