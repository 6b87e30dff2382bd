use Rattle.std.proofs.Common.{length}
use Rattle.std.specs.Prelude.{[], codes, decimal}
use Rattle.std.specs.Option.{option_map_or}
use Rattle.out_messages.specs.Guesses.{guess_of}
use Rattle.out_messages.specs.FaultLines.{in_brackets}
use Rattle.out_messages.proofs.Joins.{join3}
use Rattle.out_messages.proofs.fault_line.push_wrong_length.Goals as goal

pub returns : goal.returns
returns c =
    join3 c.args.out.now.items (codes "wrong length ") (decimal (length c.args.bytes.now)) (option_map_or in_brackets (guess_of c.args.bytes.now) [])
    c.extend_from_slice.new.self.items c.push_number.new.out.items c.push_brackets.new.out.items
    c.in_ok-extend_from_slice.ensures.items c.in_ok-push_number.ensures c.in_ok-push_brackets.ensures
