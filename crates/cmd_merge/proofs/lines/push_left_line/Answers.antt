use Rattle.std.proofs.Common.{◌≡◌, ◌++◌, codes, rules}
use Rattle.std.proofs.lemmas.Result.{on_ok_weaker}
use Rattle.std.specs.Prelude.{OnOk}
use Rattle.std.specs.List.{flat_map}
use Rattle.cmd_merge.proofs.Joined.{three}
use Rattle.cmd_merge.specs.Lines.{listed_entry, left_line}
use Rattle.cmd_merge.proofs.lines.push_left_line.Goals as goal

pub returns : goal.returns
unfolding left_line
returns c =
    let left = c.args.left.now in
    let old = c.args.out.now.items in
    let one = c.extend_from_slice.new.self.items in
    let second = c.push_entries.new.out.items in
    let a : one ≡ old ++ codes "  blocks that it lacks are on these tracks of a G64:" = c.in_ok-extend_from_slice.ensures.items in
    let ends : OnOk c.extend_from_slice-2.result (c.extend_from_slice-2.new.self.items ≡ second ++ codes "\n") = search rules in
    on_ok_weaker c.extend_from_slice-2.result
    (λ ends. three old (codes "  blocks that it lacks are on these tracks of a G64:") (flat_map listed_entry left) (codes "\n") one second c.extend_from_slice-2.new.self.items a c.in_ok-push_entries.ensures ends)
    ends
