use Rattle.std.proofs.Common.{◌≡◌, ◌≤◌, length, map, take}
use Rattle.std.specs.Vec.{vec_len, vec_capacity}
use Rattle.d64_history.specs.History.{present_image}
use Rattle.d64_undo.specs.Request.{asked_by, Run}
use Rattle.d64_undo.proofs.request.run_all.Given as goal

-- the requests so far have run, and there is room for the replies to the others
abbrev pub invariant-loop-request : goal.invariant-loop-request
invariant-loop-request l = record {
  ran : Run l.initial.session (map asked_by (take l.request-index l.requests)) l.outcomes.items l.session;
  kind : length (present_image l.session) ≡ length (present_image l.initial.session);
  count : vec_len l.outcomes ≡ l.request-index;
  room : length l.requests ≤ vec_capacity l.outcomes;
}
