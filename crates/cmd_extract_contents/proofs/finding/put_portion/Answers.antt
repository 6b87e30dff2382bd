use Rattle.std.proofs.Common.{true, false, None, refl, sym}
use Rattle.cmd_extract_contents.specs.Portions.{part_of}
use Rattle.cmd_extract_contents.proofs.Written.{from_both, there, not_there}
use Rattle.cmd_extract_contents.proofs.finding.put_portion.Goals as goal

pub returns-then-branch : goal.returns-then-branch
returns-then-branch c =
    let image = c.args.image.now in
    let cell = c.args.entry.now.bytes in
    from_both image cell c.args.with_parts c.args.with_parts _ (part_of image cell) (there _ c.put_content.new.bytes.items _ c.in_ok-put_content.ensures c.if-branch.true) refl refl

pub returns-then-not-with_parts : goal.returns-then-not-with_parts
returns-then-not-with_parts c =
    let image = c.args.image.now in
    let cell = c.args.entry.now.bytes in
    from_both image cell c.args.with_parts false None (part_of image cell) (not_there _ c.put_content.new.bytes.items _ c.in_ok-put_content.ensures c.if-branch.false)
    (sym (c.if-not-with_parts.true)) refl

pub returns-then-branch-2 : goal.returns-then-branch-2
returns-then-branch-2 c =
    let image = c.args.image.now in
    let cell = c.args.entry.now.bytes in
    from_both image cell c.args.with_parts true None _ (not_there _ c.put_content.new.bytes.items _ c.in_ok-put_content.ensures c.if-branch.false)
    (sym (c.if-not-with_parts.false)) (there _ c.put_part.new.bytes.items _ c.in_ok-put_part.ensures c.if-branch-2.true)

pub returns-else-branch-2 : goal.returns-else-branch-2
returns-else-branch-2 c =
    let image = c.args.image.now in
    let cell = c.args.entry.now.bytes in
    from_both image cell c.args.with_parts true None None (not_there _ c.put_content.new.bytes.items _ c.in_ok-put_content.ensures c.if-branch.false)
    (sym (c.if-not-with_parts.false)) (not_there _ c.put_part.new.bytes.items _ c.in_ok-put_part.ensures c.if-branch-2.false)
