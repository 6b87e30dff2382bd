use Rattle.host_names.proofs.SafeNames.{name_stays, name_allowed, name_printed}
use Rattle.host_names.proofs.Reserved.{name_unreserved}
use Rattle.host_names.proofs.laws.names_are_safe.Goals as goal

pub returns-clause-stays : goal.returns-clause-stays
returns-clause-stays c = name_stays

pub returns-clause-taken : goal.returns-clause-taken
returns-clause-taken c = λ taken text ending is_part counted.
    record { allowed = name_allowed taken text ending is_part counted; no_device = name_unreserved taken text ending is_part }

pub returns-clause-printed : goal.returns-clause-printed
returns-clause-printed c = name_printed
