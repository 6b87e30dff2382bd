use Rattle.std.proofs.Common.{rules}
use Rattle.std.specs.Prelude.{codes, decimal}
use Rattle.out_messages.specs.Words.{counted_text}
use Rattle.out_messages.specs.FaultText.{count_text}
use Rattle.out_messages.proofs.Joins.{join6}
use Rattle.out_messages.proofs.fault_text.push_track_counts.Goals as goal

pub returns : goal.returns
unfolding count_text
returns c =
    join6 c.args.out.now.items (codes "track ") (decimal c.args.track) (codes ": the map counts ") (counted_text c.args.count (codes "free block")) (codes " and marks ") (decimal c.args.marked)
    c.extend_from_slice.new.self.items c.push_number.new.out.items c.extend_from_slice-2.new.self.items c.push_count.new.out.items c.extend_from_slice-3.new.self.items c.push_number-2.new.out.items
    c.in_ok-extend_from_slice.ensures.items (search rules) c.in_ok-extend_from_slice-2.ensures.items (search rules) c.in_ok-extend_from_slice-3.ensures.items (search rules)
