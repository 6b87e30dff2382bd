use Rattle.std.proofs.Common.{◌++◌, ◌∙◌, List, ℕ, take, arith}
use Rattle.std.proofs.KnownBytes.{Consumes-trans}
use Rattle.std.proofs.lemmas.List.{length-append, length-take-le}
use Rattle.d64_history.proofs.Readers.{bytes_more}
use Rattle.d64_history.proofs.from_reader.read_past.Goals as goal

-- one piece more was read
pub loop-preserved : goal.loop-preserved
loop-preserved g c =
    let so_far = c.loop.invariant in
    let read = c.in_ok-read_piece.ensures in
    let count = c.in_ok-read_piece.field-0 in
    let piece : List ℕ = take count c.read_piece.new.buffer in
    let long = length-append so_far.0 piece in
    let own = length-take-le count c.read_piece.new.buffer read.within in
    let some = c.if-branch-eq0.false in
    let left = read.left in
    let sum = so_far.3 in
    let each = so_far.4 in (
      so_far.0 ++ piece,
      Consumes-trans (g.R.Read.remaining c.args.reader.now) (g.R.Read.remaining c.loop.reader) (g.R.Read.remaining c.read_piece.new.reader) so_far.0 piece so_far.1 read.piece,
      bytes_more so_far.0 c.read_piece.new.buffer count so_far.2 read.bytes,
      omega arith,
      omega arith,
      read.noted ∙ so_far.5,
    )
