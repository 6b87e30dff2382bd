use Rattle.std.proofs.Common.{◌≡◌, ◌++◌, List, ℕ, Err, rules, length, take, ap, subst, sym, refl, ◌∙◌, arith}
use Rattle.std.specs.Io.KnownBytes.{Consumes}
use Rattle.std.proofs.KnownBytes.{Consumes-trans, Consumes-whole}
use Rattle.std.proofs.lemmas.List.{length-append, length-take-le}
use Rattle.d64_image.specs.Disk.{AreBytes}
use Rattle.d64_history.specs.FromReader.{IsReadFault}
use Rattle.d64_history.specs.declared.from_reader.SessionReadFault.{SessionReadFault}
use Rattle.d64_history.specs.declared.from_reader.SessionReadFault.TheVariants.{Device}
use Rattle.d64_history.proofs.Readers.{bytes_append, bytes_more}
use Rattle.d64_history.proofs.from_reader.read_all.Goals as goal

-- a fault was met before the end
pub returns-in-Err-clause-fault : goal.returns-in-Err-clause-fault
returns-in-Err-clause-fault g c =
    let so_far = c.loop.invariant in
    let read = c.in_ok-count.ensures in
    let count = c.in_ok-count.count in
    let file : List ℕ = c.loop.file in
    let piece : List ℕ = take count c.read_piece.new.buffer in
    let end = c.in_ok-read_past.ensures.end in
    let more : List ℕ = end.0 in
    let own = length-take-le count c.read_piece.new.buffer read.within in
    let first = length-append file piece in
    let long = length-append (file ++ piece) more in
    let sum = so_far.left in
    let left = read.left in
    let rest = end.4 in
    subst (λ (fault : SessionReadFault). IsReadFault (g.R.Read.remaining c.args.reader.now) c.args.limit fault) (sym c.from.ensures) (
      file ++ piece ++ more,
      bytes_append (file ++ piece) more (bytes_more file c.read_piece.new.buffer count so_far.bytes read.bytes) end.3,
      Consumes-whole (g.R.Read.remaining c.args.reader.now) (g.R.Read.remaining c.read_past.new.reader) (file ++ piece ++ more) (λ (all : List ℕ). all ≡ file ++ piece ++ more)
          (Consumes-trans (g.R.Read.remaining c.args.reader.now) (g.R.Read.remaining c.read_piece.new.reader) (g.R.Read.remaining c.read_past.new.reader) (file ++ piece) more
          (Consumes-trans (g.R.Read.remaining c.args.reader.now) (g.R.Read.remaining c.loop.reader) (g.R.Read.remaining c.read_piece.new.reader) file piece so_far.read read.piece)
          end.1)
          end.2 refl,
      omega arith,
      c.in-Err.ensures.refused more,
    )

-- a read failed after a fault of the bytes
pub returns-in_err-read_past-clause-device : goal.returns-in_err-read_past-clause-device
returns-in_err-read_past-clause-device g c failed =
    let so_far = c.loop.invariant in
    let read = c.in_ok-count.ensures in
    let count = c.in_ok-count.count in
    let file : List ℕ = c.loop.file in
    let piece : List ℕ = take count c.read_piece.new.buffer in
    let same : c.from_residual-in_err-read_past.result ≡ Err c.in_err-read_past.field-0.0 = search rules in
    let device : Err c.in_err-read_past.field-0.0 ≡ Err Device = sym same ∙ failed in
    let past = c.in_err-read_past.ensures.device device in
    let more : List ℕ = past.0 in
    let own = length-take-le count c.read_piece.new.buffer read.within in
    let first = length-append file piece in
    let long = length-append (file ++ piece) more in
    let sum = so_far.left in
    let left = read.left in
    let rest = past.2 in (
      file ++ piece ++ more,
      Consumes-trans (g.R.Read.remaining c.args.reader.now) (g.R.Read.remaining c.read_piece.new.reader) (g.R.Read.remaining c.read_past.new.reader) (file ++ piece) more
          (Consumes-trans (g.R.Read.remaining c.args.reader.now) (g.R.Read.remaining c.loop.reader) (g.R.Read.remaining c.read_piece.new.reader) file piece so_far.read read.piece)
          past.1,
      omega arith,
    )

-- one piece more was given
pub loop-preserved : goal.loop-preserved
loop-preserved g c =
    let so_far = c.loop.invariant in
    let read = c.in_ok-count.ensures in
    let count = c.in_ok-count.count in
    let file : List ℕ = c.loop.file in
    let piece : List ℕ = take count c.read_piece.new.buffer in
    let given : c.push.new.self ≡ file ++ piece = c.in_default.ensures.given in
    let own = length-take-le count c.read_piece.new.buffer read.within in
    let long = ap (λ (bytes : List ℕ). length bytes) given ∙ length-append file piece in
    let sum = so_far.left in
    let left = read.left in
    let some = c.if-count-eq0.false in
    let each = so_far.each in
    record {
      read = subst (λ (bytes : List ℕ). Consumes (g.R.Read.remaining c.args.reader.now) (g.R.Read.remaining c.read_piece.new.reader) bytes) (sym given)
          (Consumes-trans (g.R.Read.remaining c.args.reader.now) (g.R.Read.remaining c.loop.reader) (g.R.Read.remaining c.read_piece.new.reader) file piece so_far.read read.piece);
      bytes = subst (λ (bytes : List ℕ). AreBytes bytes) (sym given) (bytes_more file c.read_piece.new.buffer count so_far.bytes read.bytes);
      left = omega arith;
      each = omega arith;
      noted = read.noted ∙ so_far.noted;
    }
