use Rattle.d64_map.proofs.Maps.{entry_written}
use Rattle.d64_map.proofs.TrackBits.{ones_members, low_byte, middle_byte, high_byte}
use Rattle.d64_map.proofs.block_map.put_entry.Goals as goal

pub returns-clause-entry : goal.returns-clause-entry
returns-clause-entry c =
    let free = c.args.free.now in
    let track = c.args.track in
    let bits = c.member_bits-bits.result in
    let are = c.member_bits-bits.ensures.bits in
    entry_written c.args.map.now free track c.entry_of-entry.result _ _ _ _ c.told-map c.member_bits-bits.ensures.range.1 c.entry_of-entry.ensures.place
    (ones_members free track bits c.member_bits-bits.ensures.range.0 c.member_bits-bits.ensures.range.1 are)
    (low_byte free track bits are) (middle_byte free track bits are) (high_byte free track bits are)
