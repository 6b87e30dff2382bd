use Rattle.std.proofs.Common.{◌≡◌, sym, subst, arith}
use Rattle.host_names.specs.declared.taken_names.Taken.{Taken}
use Rattle.host_names.specs.Digest.{name_digest}
use Rattle.host_names.proofs.Records.{record_at, none_of_records}
use Rattle.host_names.proofs.taken_names.find.Goals as goal

pub has_name-requires-clause-kept : goal.has_name-requires-clause-kept
has_name-requires-clause-kept c =
    subst (λ (taken : Taken). taken.digest ≡ name_digest taken.name.items) (sym c.index-names-place.is)
    (record_at c.args.names.now c.requires c.loop-place.place c.index-names-place.result c.loop-place-test.true).digest

pub returns-clause-found : goal.returns-clause-found
returns-clause-found c = none_of_records c.args.names.now c.args.name.now (λ k within d. c.loop-place.invariant k (omega arith) d)
