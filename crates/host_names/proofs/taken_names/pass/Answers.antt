use Rattle.host_names.proofs.Records.{passed_names, passed_records}
use Rattle.host_names.proofs.taken_names.pass.Goals as goal

pub returns-clause-names : goal.returns-clause-names
returns-clause-names c = passed_names c.args.names.now c.args.place c.args.next c.index-names-place.result c.requires.within

pub returns-clause-records : goal.returns-clause-records
returns-clause-records c =
    passed_records c.args.names.now c.args.place c.args.next c.index-names-place.result c.requires.within c.requires.records c.requires.from
    (c.requires.tried c.index-names-place.result)
