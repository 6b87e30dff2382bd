use Rattle.std.proofs.Common.{◌≡◌, ℕ, ◌<◌, ◌≤◌, List, [], take, drop, length, min, ap, sym, subst, take-append-drop, take_all, arith}
use Rattle.host_storage.specs.Input.{input_limit}
use Rattle.script_text.specs.Parts.{HasCome, Lacks, parts_of}
use Rattle.script_text.proofs.PartSteps.{HasCome-none, ends_at_end}
use Rattle.script_text.proofs.parts.cut_text.Goals as goal

pub returns-in-Break-clause-ended : goal.returns-in-Break-clause-ended
returns-in-Break-clause-ended g c =
    let text = c.args.text.now in
    subst (λ l. g.P.PartHandler.has_ended c.args.handler.now c.take_piece.new.handler (parts_of c.args.separator l) c.in-Break.end) (take-append-drop c.min.result text)
    (c.in-Break.ensures.came c.args.handler.now [] c.requires.separator (HasCome-none _ _ c.requires.begun) (drop c.min.result text))

-- the part within the limit of a text that is longer
within_limit : (text : List ℕ) (least : ℕ) → least ≡ min (length text) input_limit → input_limit < length text → take least text ≡ take input_limit text
within_limit text least is over = let same : least ≡ input_limit = omega (arith, is, over) in ap (λ n. take n text) same

pub returns-then-text-gt-INPUT_BYTES-clause-ended : goal.returns-then-text-gt-INPUT_BYTES-clause-ended
returns-then-text-gt-INPUT_BYTES-clause-ended g c =
    let text = c.args.text.now in
    subst (HasCome (g.P.PartHandler.has_come c.args.handler.now c.take_piece.new.handler) c.args.separator) (within_limit text c.min.result c.min.ensures c.if-text-gt-INPUT_BYTES.true)
    (c.in_default.ensures.came c.args.handler.now [] c.requires.separator (HasCome-none _ _ c.requires.begun))

-- a text within the limit is taken whole
whole : (text : List ℕ) (least : ℕ) → least ≡ min (length text) input_limit → length text ≤ input_limit → take least text ≡ text
whole text least is fits = take_all least text (omega (arith, is, fits))

pub returns-clause-ended : goal.returns-clause-ended
returns-clause-ended g c =
    let text = c.args.text.now in
    let come = subst (HasCome (g.P.PartHandler.has_come c.args.handler.now c.take_piece.new.handler) c.args.separator) (whole text c.min.result c.min.ensures (omega (arith, c.if-text-gt-INPUT_BYTES.false)))
    (c.in_default.ensures.came c.args.handler.now [] c.requires.separator (HasCome-none _ _ c.requires.begun)) in
    ends_at_end (g.P.PartHandler.has_come c.args.handler.now c.take_piece.new.handler) (λ parts. g.P.PartHandler.has_ended c.args.handler.now c.end_input.new.self parts c.end_input.result)
    c.args.separator text come
    (λ parts last here is_open. c.end_input.ensures c.args.handler.now parts last here (subst (λ s. Lacks s last) (sym c.requires.separator) is_open))
