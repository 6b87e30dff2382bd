-- The iterator's rest loses its first line.
use Rattle.std.proofs.Common.{◌≡◌, ◌∷◌, length, ap, ◌∙◌, arith, rules}
use Rattle.std.proofs.lemmas.List.{nil_from_length}
use Rattle.script_text.specs.RawLines.{lines_of}
use Rattle.script_text.proofs.LineCuts.{lines_of-nil, lines_of-first, length-take_through-le}
use Rattle.script_text.proofs.raw_lines.RawLinesIterator.next.Goals as goal

pub returns-then-is_empty-clause-steps : goal.returns-then-is_empty-clause-steps
returns-then-is_empty-clause-steps c =
    let none = ap lines_of (nil_from_length c.args.self.now.0.now (search rules)) ∙ lines_of-nil in
    (none, none)

pub split_at-requires : goal.split_at-requires
split_at-requires c = omega (arith, c.line_end.ensures, length-take_through-le c.args.self.now.0.now)

pub returns-clause-steps : goal.returns-clause-steps
returns-clause-steps c =
    lines_of-first c.args.self.now.0.now c.split_at.result.0.now c.split_at.result.1.now c.line_end.result
    (search rules) c.line_end.ensures c.split_at.ensures.front c.split_at.ensures.back

pub returns-clause-goes : goal.returns-clause-goes
returns-clause-goes c =
    let cut : lines_of c.args.self.now.0.now ≡ c.split_at.result.0.now ∷ lines_of c.split_at.result.1.now = returns-clause-steps c in
    record {
      on = λ _. (tt, tt, omega (arith, ap length cut));
      keeps = tt;
      rests = λ _. tt;
    }
