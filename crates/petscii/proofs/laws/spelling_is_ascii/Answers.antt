use Rattle.std.proofs.Common.{◌<◌, arith}
use Rattle.std.proofs.lemmas.List.Elements.{All-from_get_or}
use Rattle.petscii.proofs.AsciiTexts.{spelling-ascii}
use Rattle.petscii.proofs.laws.spelling_is_ascii.Goals as goal

pub returns : goal.returns
returns c = spelling-ascii c.args.bytes.now (All-from_get_or (λ byte. byte < 256) c.args.bytes.now 0 (λ i within. omega (arith, c.type_inv.bytes i)))
