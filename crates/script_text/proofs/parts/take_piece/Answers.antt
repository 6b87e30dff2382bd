use Rattle.std.proofs.Common.{◌≡◌, [], ◌∷◌, ◌++◌, length, ap, sym, ◌∙◌, subst, append_assoc, append-nil, length-append, arith, rules}
use Rattle.std.proofs.lemmas.List.{nil_from_length}
use Rattle.script_text.specs.Parts.{HasCome, Lacks, parts_of}
use Rattle.script_text.proofs.PartSteps.{HasCome-end, HasCome-push, ends_at_part, past_separator, piece_is, up_to_separator}
use Rattle.script_text.proofs.parts.take_piece.Goals as goal

pub returns-in-Break-clause-came : goal.returns-in-Break-clause-came
returns-in-Break-clause-came g c = λ first before same come more.
    let i = c.loop-part.invariant in
    let separator = c.args.separator in
    let part = c.in-Some.part.now in
    let others = c.in-Some.others.now in
    let pushed = HasCome-push (g.P.PartHandler.has_come first c.loop-part.handler) (g.P.PartHandler.has_come first c.push.new.self) separator (before ++ i.done) part
    (i.came first before same come) c.in-Some.ensures.0 (λ parts begun here. c.push.ensures.came first parts begun here) in
    subst (λ l. g.P.PartHandler.has_ended first c.end_part.new.self (parts_of separator l) c.in-Break.end)
    (past_separator separator before i.done part others c.loop-part.rest.now c.args.piece.now more c.in-Some.ensures.1 i.split)
    (ends_at_part (g.P.PartHandler.has_come first c.push.new.self) (λ parts. g.P.PartHandler.has_ended first c.end_part.new.self parts c.in-Break.end)
    separator ((before ++ i.done) ++ part) (others ++ more) pushed
    (λ parts part here is_open next more. c.in-Break.ensures.came first parts part here (subst (λ s. Lacks s part) (sym same) is_open) next more))

pub loop-part-preserved : goal.loop-part-preserved
loop-part-preserved g c =
    let i = c.loop-part.invariant in
    let separator = c.args.separator in
    let part = c.in-Some.part.now in
    let others = c.in-Some.others.now in
    record {
      done = i.done ++ (part ++ separator ∷ []);
      split = piece_is separator i.done part others c.loop-part.rest.now c.args.piece.now c.in-Some.ensures.1 i.split;
      few = omega (arith, i.few, c.push.ensures.count, c.end_part.ensures.count, length-append i.done (part ++ separator ∷ []), length-append part (separator ∷ []));
      came = λ first before same come.
          subst (HasCome (g.P.PartHandler.has_come first c.end_part.new.self) separator) (up_to_separator separator before i.done part)
          (HasCome-end (g.P.PartHandler.has_come first c.push.new.self) (g.P.PartHandler.has_come first c.end_part.new.self) separator ((before ++ i.done) ++ part)
          (HasCome-push (g.P.PartHandler.has_come first c.loop-part.handler) (g.P.PartHandler.has_come first c.push.new.self) separator (before ++ i.done) part
          (i.came first before same come) c.in-Some.ensures.0 (λ parts begun here. c.push.ensures.came first parts begun here))
          (λ parts part here is_open. c.in_default-end_part.ensures.came first parts part here (subst (λ s. Lacks s part) (sym same) is_open)));
    }

pub returns-then-is_empty-clause-came : goal.returns-then-is_empty-clause-came
returns-then-is_empty-clause-came g c = λ first before same come.
    let i = c.loop-part.invariant in
    let rest = c.loop-part.rest.now in
    let none : length rest ≡ 0 = search rules in
    subst (λ l. HasCome (g.P.PartHandler.has_come first c.loop-part.handler) c.args.separator (before ++ l))
    (sym (append-nil i.done) ∙ ap (λ l. i.done ++ l) (sym (nil_from_length rest none)) ∙ i.split) (i.came first before same come)

pub returns-clause-came : goal.returns-clause-came
returns-clause-came g c = λ first before same come.
    let i = c.loop-part.invariant in
    let rest = c.loop-part.rest.now in
    subst (HasCome (g.P.PartHandler.has_come first c.push-2.new.self) c.args.separator) (append_assoc before i.done rest ∙ ap (λ l. before ++ l) i.split)
    (HasCome-push (g.P.PartHandler.has_come first c.loop-part.handler) (g.P.PartHandler.has_come first c.push-2.new.self) c.args.separator (before ++ i.done) rest
    (i.came first before same come) c.in_default.ensures (λ parts begun here. c.push-2.ensures.came first parts begun here))
