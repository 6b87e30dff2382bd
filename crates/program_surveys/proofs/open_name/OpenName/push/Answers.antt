use Rattle.std.proofs.Common.{◌≡◌, ◌-◌, ◌≤◌, ◌++◌, length, take, min, ◌∙◌, rules}
use Rattle.program_surveys.proofs.ListNames.{taken_within}
use Rattle.program_surveys.proofs.open_name.OpenName.push.Goals as goal

pub returns : goal.returns
returns c =
    let few : length c.args.self.now ≤ 4097 = search rules in
    let fits : c.try_extend_from_slice.new.self.items ≡ c.args.self.now ++ take c.min.result c.args.bytes.now = search rules in
    let is : c.min.result ≡ min (length c.args.bytes.now) (4097 - length c.args.self.now) = search rules in
    fits ∙ taken_within 4097 c.args.self.now c.args.bytes.now c.min.result few is
