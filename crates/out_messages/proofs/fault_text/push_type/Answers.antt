use Rattle.std.proofs.Common.{rules}
use Rattle.std.specs.Prelude.{codes, decimal}
use Rattle.d64_survey.specs.declared.owner.Part.TheVariants.{Data}
use Rattle.out_messages.specs.OwnerText.{file_part}
use Rattle.out_messages.specs.FaultText.{wrong_kind_text}
use Rattle.out_messages.proofs.Joins.{join4}
use Rattle.out_messages.proofs.fault_text.push_type.Goals as goal

pub returns : goal.returns
unfolding wrong_kind_text
returns c =
    join4 c.args.out.now.items (file_part c.args.survey.now c.args.slot Data) (codes " has the type byte ") (decimal c.args.type_byte) (codes ", which is not a file type")
    c.push_part.new.out.items c.extend_from_slice.new.self.items c.push_number.new.out.items c.extend_from_slice-2.new.self.items
    c.in_ok-push_part.ensures c.in_ok-extend_from_slice.ensures.items (search rules) c.in_ok-extend_from_slice-2.ensures.items
