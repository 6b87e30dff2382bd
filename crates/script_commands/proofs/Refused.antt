-- Results that are refusals.
use Rattle.std.proofs.Common.{◌≡◌, Result, Ok, Err, sym, subst}
use Rattle.std.specs.Prelude.{IsErrAnd}
use Rattle.host_storage.specs.Files.{HostState}
use Rattle.d64_history.specs.History.{History}
use Rattle.script_lines.specs.Act.{Act, Ending, Does, plain_response, world_of}
use Rattle.script_lines.specs.Response.{Responds}
use Rattle.script_lines.specs.declared.response.Response.{Response}
use Rattle.script_lines.specs.declared.status.Status.{Status}

-- an act that is done with the status of a refusal is done with a result that is this refusal
pub responds_refused : (act : Act Ending) (old new : HostState) (history after : History) (status : Status) (result : Result Response Status)
    → IsErrAnd result (λ given. given ≡ status)
    → Does act (world_of old history) (plain_response status) (world_of new after) → Responds act old history result new after
responds_refused act old new history after status (Ok response) is done = absurd is
responds_refused act old new history after status (Err given) is done =
    subst (λ (refused : Status). Does act (world_of old history) (plain_response refused) (world_of new after)) (sym is) done
