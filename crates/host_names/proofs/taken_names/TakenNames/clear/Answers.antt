use Rattle.std.proofs.Common.{sym, subst, ap, ◌∙◌, List}
use Rattle.host_names.specs.declared.taken_names.Taken.{Taken}
use Rattle.host_names.specs.Records.{names_of, AreNameRecords}
use Rattle.host_names.proofs.Records.{names-nil, records-nil}
use Rattle.host_names.proofs.taken_names.TakenNames.clear.Goals as goal

pub invariant_of-self : goal.invariant_of-self
invariant_of-self c = subst (λ (records : List Taken). AreNameRecords records) (sym c.clear.ensures.items) records-nil

pub returns : goal.returns
returns c = ap names_of c.clear.ensures.items ∙ names-nil
