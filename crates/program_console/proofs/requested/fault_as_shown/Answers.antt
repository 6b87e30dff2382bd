use Rattle.std.proofs.Common.{◌≡◌, ◌∙◌, List, ℕ, ap, map, string_bytes, subst}
use Rattle.program_arguments.specs.Requested.{IsFault}
use Rattle.program_console.specs.RequestedJob.{named_arguments}
use Rattle.program_console.proofs.requested.fault_as_shown.Goals as goal

-- the second error is one of the arguments as they are shown
pub returns-clause-shown : goal.returns-clause-shown
returns-clause-shown c =
    let same : map (λ argument. argument.now) c.as_slice.result.now ≡ map string_bytes c.args.shown.now =
    ap (map (λ argument. argument.now)) c.as_slice.ensures.value ∙ c.in-Ok.ensures in
    c.last_if_alike.ensures.shown _
    (subst (λ (arguments : List (List ℕ)). IsFault (named_arguments arguments) c.in-Err-named_job.other) same c.in-Err-named_job.ensures.fault)
