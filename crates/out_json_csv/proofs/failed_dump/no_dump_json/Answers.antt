use Rattle.std.proofs.Common.{◌≡◌, ◌++◌, Bool, length, subst}
use Rattle.std.specs.Prelude.{IfOk, codes, if◌then◌else◌}
use Rattle.out_json_csv.specs.Values.{line_of}
use Rattle.out_json_csv.specs.FailedDumps.{failed_object, wrong_length_object}
use Rattle.out_json_csv.proofs.failed_dump.no_dump_json.Goals as goal

pub returns-then-begins_as_g64 : goal.returns-then-begins_as_g64
returns-then-begins_as_g64 c =
    subst (λ (b : Bool). IfOk c.failed_json.result (λ text. text.items ≡ c.args.out.items ++ line_of (if b then failed_object c.args.name.now (codes "bad G64") else wrong_length_object c.args.name.now (length c.args.bytes.now))))
    c.if-begins_as_g64.ensures c.failed_json.ensures
