use Rattle.d64_g64.proofs.Nibbles.{nibble_in_table, none_in_table}
use Rattle.d64_g64.proofs.code.nibble_of.Goals as goal

pub returns-then-nibble-lt16-clause-value : goal.returns-then-nibble-lt16-clause-value
returns-then-nibble-lt16-clause-value c = nibble_in_table c.args.code c.requires c.if-nibble-lt16.true

pub returns-else-nibble-lt16-clause-value : goal.returns-else-nibble-lt16-clause-value
returns-else-nibble-lt16-clause-value c = none_in_table c.args.code c.requires c.if-nibble-lt16.false
