use Rattle.std.proofs.Common.{◌≡◌, ◌+◌, List, [], ◌∷◌, ◌++◌, map, take, ap, sym, ◌∙◌, subst, arith}
use Rattle.std.specs.Vec.{vec_len}
use Rattle.std.proofs.lemmas.List.{map-append}
use Rattle.d64_history.specs.History.{present_image}
use Rattle.d64_undo.specs.Request.{Asked, asked_by, IsAskedOf, Run}
use Rattle.d64_undo.specs.declared.request.Request.{Request}
use Rattle.d64_undo.specs.declared.request.RequestOutcome.{RequestOutcome}
use Rattle.d64_undo.proofs.Runs.{Run-push, asked_alike}
use Rattle.d64_history.proofs.Records.{take_on}
use Rattle.d64_undo.proofs.request.run_all.Goals as goal

-- the run so far, and the step of this request
pub loop-request-preserved : goal.loop-request-preserved
loop-request-preserved c =
    let outcomes : c.push.new.self.items ≡ c.loop-request.outcomes.items ++ c.run_one.result ∷ [] = rw c.unwrap.ensures at c.push.ensures.items in
    let before = take c.loop-request.request-index c.args.requests.now in
    let taken = take_on c.args.requests.now c.loop-request.request-index c.request-item.result c.loop-request-test.true c.request-item.is in
    let requests : map asked_by (take (c.loop-request.request-index + 1) c.args.requests.now) ≡ map asked_by before ++ asked_by c.request-item.result ∷ [] =
    ap (map asked_by) taken ∙ map-append asked_by before (c.request-item.result ∷ []) in
    let count : vec_len c.push.new.self ≡ vec_len c.loop-request.outcomes + 1 = rw c.unwrap.ensures at c.push.ensures.len in
    record {
      ran =
          subst (λ (rs : List Asked). Run c.args.session.now rs c.push.new.self.items c.run_one.new.session) (sym requests)
          (subst (λ (xs : List RequestOutcome). Run c.args.session.now (map asked_by before ++ asked_by c.request-item.result ∷ []) xs c.run_one.new.session) (sym outcomes)
          (Run-push c.args.session.now c.loop-request.session c.run_one.new.session (map asked_by before) c.loop-request.outcomes.items
          (asked_by c.request-item.result) c.run_one.result c.loop-request.invariant.ran c.run_one.ensures.step));
      kind = c.run_one.ensures.kind ∙ c.loop-request.invariant.kind;
      count = omega arith;
      room = omega (arith, c.push.ensures.capacity);
    }

-- the image has as many blocks as before, and so the one that the request names
pub run_one-requires : goal.run_one-requires
run_one-requires c =
    asked_alike (present_image c.args.session.now) (present_image c.loop-request.session) (asked_by c.request-item.result) c.loop-request.invariant.kind
    (subst (λ (r : Request). IsAskedOf (present_image c.args.session.now) (asked_by r)) (sym c.request-item.is)
    (c.requires c.loop-request.request-index c.request-item.result c.loop-request-test.true))
