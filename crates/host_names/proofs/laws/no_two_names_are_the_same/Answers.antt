use Rattle.std.proofs.Common.{[], arith}
use Rattle.host_names.proofs.ManyNames.{name_is_free, names_differ, none_differ}
use Rattle.host_names.proofs.laws.no_two_names_are_the_same.Goals as goal

pub returns-clause-free : goal.returns-clause-free
returns-clause-free c = name_is_free

pub returns-clause-distinct : goal.returns-clause-distinct
returns-clause-distinct c = λ files few. names_differ files [] (omega arith) none_differ
