use Rattle.std.proofs.Common.{[], ◌++◌, take, drop, sym, subst, append-nil, take_all, inl, inr, arith, rules}
use Rattle.std.proofs.KnownBytes.{Consumes-kept, Consumes-trans}
use Rattle.std.proofs.lemmas.List.{length-append, length-take-le}
use Rattle.std.specs.Io.KnownBytes.{Consumes}
use Rattle.host_storage.specs.Input.{input_limit}
use Rattle.script_text.specs.Parts.{Lacks}
use Rattle.script_text.proofs.PartSteps.{HasCome-same, ends_at_end, ends_before_read}
use Rattle.script_text.proofs.InputReads.{Consumes-fits, Consumes-none, Consumes-read, CutsShort-by, Ends-after, Ends-whole, length-read, take_limit}
use Rattle.script_text.proofs.parts.read_parts.Goals as goal

pub returns-in-Break-clause-ended : goal.returns-in-Break-clause-ended
returns-in-Break-clause-ended g c =
    let i = c.loop.invariant in
    Ends-after _ c.args.separator (g.R.Read.remaining c.args.input.now.reader.now) (g.R.Read.remaining c.loop.input.reader.now) i.bytes []
    (subst (Consumes (g.R.Read.remaining c.args.input.now.reader.now) (g.R.Read.remaining c.loop.input.reader.now)) (sym (append-nil i.bytes)) i.lost)
    (λ more. ends_before_read (g.P.PartHandler.has_come c.args.handler.now c.loop.handler)
    (λ parts. g.P.PartHandler.has_ended c.args.handler.now c.prepare.new.self parts c.in-Break.end) c.args.separator i.bytes more i.came (λ parts begun here. c.in-Break.ensures.came c.args.handler.now parts begun c.requires.delivered here))

pub returns-in-Ok-eq0-clause-ended : goal.returns-in-Ok-eq0-clause-ended
returns-in-Ok-eq0-clause-ended g c =
    let i = c.loop.invariant in
    let come = HasCome-same _ _ c.args.separator i.bytes i.came (λ parts begun here. (c.in_default.ensures.came c.args.handler.now parts begun c.requires.delivered here).0) in
    let read = c.in-Ok-eq0.ensures.bytes in
    Ends-whole _ c.args.separator (g.R.Read.remaining c.args.input.now.reader.now) (g.R.Read.remaining c.read_after.new.self.reader.now) i.bytes
    (Consumes-none _ _ _ i.bytes c.read_after.new.buffer c.in-Ok-eq0.field-0 i.lost read.0 c.in-Ok-eq0.field-0-test)
    (read.1 c.in-Ok-eq0.field-0-test (search rules))
    (ends_at_end (g.P.PartHandler.has_come c.args.handler.now c.prepare.new.self)
    (λ parts. g.P.PartHandler.has_ended c.args.handler.now c.end_input.new.self parts c.end_input.result) c.args.separator i.bytes come
    (λ parts last here is_open. c.end_input.ensures c.args.handler.now parts last here (subst (λ s. Lacks s last) (sym c.requires.separator) is_open)))

pub returns-in-Err-clause-ended : goal.returns-in-Err-clause-ended
returns-in-Err-clause-ended g c =
    let i = c.loop.invariant in
    let come = HasCome-same _ _ c.args.separator i.bytes i.came (λ parts begun here. (c.in_default.ensures.came c.args.handler.now parts begun c.requires.delivered here).0) in
    CutsShort-by _ c.args.separator (g.R.Read.remaining c.args.input.now.reader.now) (g.R.Read.remaining c.read_after.new.self.reader.now) _ i.bytes i.bytes
    (Consumes-kept _ _ _ _ i.lost c.in-Err.ensures.bytes) (inl c.in-Err.ensures.failed) (take_all input_limit i.bytes (omega (arith, i.within))) come

pub returns-in-Break-take_piece-clause-ended : goal.returns-in-Break-take_piece-clause-ended
returns-in-Break-take_piece-clause-ended g c =
    let i = c.loop.invariant in
    let buffer = c.read_after.new.buffer in
    let come = HasCome-same _ _ c.args.separator i.bytes i.came (λ parts begun here. (c.in_default.ensures.came c.args.handler.now parts begun c.requires.delivered here).0) in
    Ends-after _ c.args.separator (g.R.Read.remaining c.args.input.now.reader.now) (g.R.Read.remaining c.read_after.new.self.reader.now)
    (i.bytes ++ take c.min.result buffer) (drop c.min.result (take c.in-Ok.count buffer))
    (Consumes-read _ _ _ i.bytes buffer c.in-Ok.count c.min.result c.loop.room i.lost c.in-Ok.ensures.bytes.0 c.min.ensures)
    (c.in-Break-take_piece.ensures.came c.args.handler.now i.bytes c.requires.separator come)

pub returns-then-count-room-clause-ended : goal.returns-then-count-room-clause-ended
returns-then-count-room-clause-ended g c =
    let i = c.loop.invariant in
    let buffer = c.read_after.new.buffer in
    let count = c.in-Ok.count in
    let come = HasCome-same _ _ c.args.separator i.bytes i.came (λ parts begun here. (c.in_default.ensures.came c.args.handler.now parts begun c.requires.delivered here).0) in
    CutsShort-by _ c.args.separator (g.R.Read.remaining c.args.input.now.reader.now) (g.R.Read.remaining c.read_after.new.self.reader.now) _
    (i.bytes ++ take c.min.result buffer) (i.bytes ++ take count buffer)
    (Consumes-trans _ _ _ i.bytes (take count buffer) i.lost c.in-Ok.ensures.bytes.0)
    (inr (omega (arith, i.within, c.if-count-room.true, length-append i.bytes (take count buffer), length-take-le count buffer c.in-Ok.ensures.bound.0)))
    (take_limit i.bytes buffer count c.min.result c.loop.room i.within c.if-count-room.true c.min.ensures)
    (c.in_default-take_piece.ensures.came c.args.handler.now i.bytes c.requires.separator come)

pub loop-preserved : goal.loop-preserved
loop-preserved g c =
    let i = c.loop.invariant in
    let buffer = c.read_after.new.buffer in
    let count = c.in-Ok.count in
    let least = c.min.result in
    let come = HasCome-same _ _ c.args.separator i.bytes i.came (λ parts begun here. (c.in_default.ensures.came c.args.handler.now parts begun c.requires.delivered here).0) in
    let longer = length-read i.bytes buffer count least c.loop.room c.in-Ok.ensures.bound.0 c.min.ensures in
    record {
      bytes = i.bytes ++ take least buffer;
      lost = Consumes-fits _ _ _ i.bytes buffer count least c.loop.room i.lost c.in-Ok.ensures.bytes.0 c.if-count-room.false c.min.ensures;
      within = omega (arith, i.within, longer, c.min.ensures, c.if-count-room.false);
      each = omega (arith, i.each, longer, c.min.ensures, c.if-count-room.false, c.in-Ok.count-test);
      came = c.in_default-take_piece.ensures.came c.args.handler.now i.bytes c.requires.separator come;
      few = omega (arith, i.few, longer, c.prepare.ensures.count, c.take_piece.ensures.count, length-append i.bytes (take least buffer));
      same = search rules;
      counted = search rules;
      came_bytes = omega (arith, i.came_bytes, longer, c.min.ensures, c.if-count-room.false, c.in-Ok.ensures.came);
      read = search rules;
    }

pub returns-clause-ended : goal.returns-clause-ended
returns-clause-ended g c =
    let i = c.loop.invariant in
    CutsShort-by _ c.args.separator (g.R.Read.remaining c.args.input.now.reader.now) (g.R.Read.remaining c.loop.input.reader.now) _ i.bytes i.bytes
    i.lost (inr (omega (arith, i.each, c.loop-test.false))) (take_all input_limit i.bytes (omega (arith, i.within))) i.came
