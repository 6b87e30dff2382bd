use Rattle.std.proofs.Common.{◌<◌, arith}
use Rattle.std.proofs.lemmas.List.Elements.{All-from_get_or}
use Rattle.petscii.specs.Spelling.{spelling}
use Rattle.petscii.proofs.Readings.{spelling_read, one_reading, no_fault}
use Rattle.petscii.proofs.laws.spelling_reads_back.Goals as goal

pub returns : goal.returns
returns c =
    let bytes = c.args.bytes.now in
    let read = spelling_read bytes (All-from_get_or (λ b. b < 256) bytes 0 (λ i within. omega (arith, c.type_inv.bytes i))) in
    record {
      read = read;
      only = λ others other_read. one_reading (spelling bytes) others bytes other_read read;
      no_fault = λ fault. no_fault (spelling bytes) bytes fault read;
    }
