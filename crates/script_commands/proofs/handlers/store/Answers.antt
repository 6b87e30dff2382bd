use Rattle.std.proofs.Common.{[], Ok, Err, refl}
use Rattle.script_lines.specs.Act.{Does, Store, CallGives, World}
use Rattle.d64_history.specs.History.{present_image}
use Rattle.script_lines.specs.Line.{leave}
use Rattle.script_lines.specs.Response.{shown_response}
use Rattle.script_lines.proofs.Acts.{Does-given, Does-refused}
use Rattle.script_commands.proofs.Refused.{responds_refused}
use Rattle.script_commands.proofs.handlers.store.Goals as goal

pub returns : goal.returns
unfolding Does
returns g c = λ history.
    let old = g.H.Host.state c.args.host.now in
    let new = g.H.Host.state c.store.new.self in
    let after : World = record { host = new; history = history } in
    let gives : CallGives (Store c.args.name.now c.args.bytes.now) old (Ok []) new =
    (Ok tt, record { response = c.in_ok-store.ensures.stored; counted = c.in_ok-store.ensures.counted }, refl) in
    let done : Does (leave history) after (shown_response (present_image history) c.plain.result) after = (c.plain.ensures (present_image history), refl) in
    Does-given (Store c.args.name.now c.args.bytes.now) (λ stored. leave history) [] old new history (shown_response (present_image history) c.plain.result) after gives done

pub returns-in_err-store : goal.returns-in_err-store
returns-in_err-store g c = λ history.
    responds_refused _ _ _ history history _ _ c.from_residual.ensures.1
    (Does-refused _ _ _ _ _ history
    (Err c.in_err-store.field-0.0, record { response = c.in_err-store.ensures.stored; counted = c.in_err-store.ensures.counted }, refl))
