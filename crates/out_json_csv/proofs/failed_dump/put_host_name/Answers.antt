use Rattle.std.proofs.Common.{◌≡◌, ◌∙◌, sym}
use Rattle.std.specs.Str.Lossy.{utf8_lossy}
use Rattle.std.proofs.lemmas.Str.{utf8_lossy-IsUtf8}
use Rattle.out_json_csv.proofs.failed_dump.put_host_name.Goals as goal

pub returns-in-Ok : goal.returns-in-Ok
returns-in-Ok c =
    let cases = c.in-Ok.ensures.cases in
    let same : c.in-Ok.text.now ≡ utf8_lossy c.args.name.now = cases.0 ∙ sym (utf8_lossy-IsUtf8 c.args.name.now cases.1) in
    rw same at c.put_text.ensures
