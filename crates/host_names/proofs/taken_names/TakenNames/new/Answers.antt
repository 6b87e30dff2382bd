use Rattle.std.proofs.Common.{sym, subst, ap, ◌∙◌, List}
use Rattle.host_names.specs.declared.taken_names.Taken.{Taken}
use Rattle.host_names.specs.Records.{names_of, AreNameRecords}
use Rattle.host_names.proofs.Records.{names-nil, records-nil}
use Rattle.host_names.proofs.taken_names.TakenNames.new.Goals as goal

pub invariant_of-result : goal.invariant_of-result
invariant_of-result c = subst (λ (records : List Taken). AreNameRecords records) (sym c.new.ensures.items) records-nil

pub returns : goal.returns
returns c = ap names_of c.new.ensures.items ∙ names-nil
