use Rattle.std.proofs.Common.{[], ap, sym, true≢false, ◌∙◌}
use Rattle.std.proofs.lemmas.Result.{IfOk-weaker, IfErr-weaker}
use Rattle.clap.specs.Words.{App}
use Rattle.program_arguments.proofs.Parses.{asked, command_is_free, met_as, met_is, no_fault, refused, reported, wants_subcommand}
use Rattle.program_arguments.proofs.Required.{met_is_whole}
use Rattle.program_arguments.proofs.reading.program_job.Goals as goal

pub returns-in-Err-clause-fault : goal.returns-in-Err-clause-fault
returns-in-Err-clause-fault c =
    let kinds = c.in-Err.ensures.kinds (command_is_free c.in_ok-d64sh.field-0 [] c.in_ok-d64sh.ensures.0) in
    reported _ c.in-Err.error c.refusal.result (rw (← c.in_ok-d64sh.ensures.0) kinds) c.refusal.ensures

pub unreachable-requires : goal.unreachable-requires
unreachable-requires c =
    let parsed = c.in-Ok.ensures.parsed in
    let checked = (parsed.parsed (parsed.from.globals ∙ c.in_ok-d64sh.ensures.1)).checked in
    let wants = ap (λ (a : App). a.top.subcommand_required) c.in_ok-d64sh.ensures.0 ∙ wants_subcommand in
    true≢false (sym (checked.subcommand (parsed.from.needs_subcommand ∙ wants)) ∙ sym c.in_default.ensures.variant)

pub unreachable-requires-in_default-named : goal.unreachable-requires-in_default-named
unreachable-requires-in_default-named c =
    let met = met_is c.in_ok-d64sh.field-0 _ c.in_ok-d64sh.ensures.0 c.in-Ok.matches c.in-Ok.ensures.matches _ _ c.in-Some.ensures.name c.in-Some.ensures.rows in
    let free = command_is_free c.in_ok-d64sh.field-0 [] c.in_ok-d64sh.ensures.0 in
    c.in_default-named.ensures (met_is_whole _ _ (no_fault c.in_ok-d64sh.field-0 _ c.in_ok-d64sh.ensures.0 (c.in-Ok.ensures.kinds free)) met).0

pub job-requires : goal.job-requires
job-requires c =
    let named = met_is c.in_ok-d64sh.field-0 _ c.in_ok-d64sh.ensures.0 c.in-Ok.matches c.in-Ok.ensures.matches _ _ c.in-Some.ensures.name c.in-Some.ensures.rows in
    let met = met_as _ named c.in-Some-named.ensures in
    let free = command_is_free c.in_ok-d64sh.field-0 [] c.in_ok-d64sh.ensures.0 in
    (met_is_whole _ _ (no_fault c.in_ok-d64sh.field-0 _ c.in_ok-d64sh.ensures.0 (c.in-Ok.ensures.kinds free)) met).1

pub returns-clause-job : goal.returns-clause-job
returns-clause-job c =
    let named = met_is c.in_ok-d64sh.field-0 _ c.in_ok-d64sh.ensures.0 c.in-Ok.matches c.in-Ok.ensures.matches _ _ c.in-Some.ensures.name c.in-Some.ensures.rows in
    let met = met_as _ named c.in-Some-named.ensures in
    let free = command_is_free c.in_ok-d64sh.field-0 [] c.in_ok-d64sh.ensures.0 in
    let none = no_fault c.in_ok-d64sh.field-0 _ c.in_ok-d64sh.ensures.0 (c.in-Ok.ensures.kinds free) in
    IfOk-weaker c.job.result _ _ (asked _ _ none met) c.job.ensures.job

pub returns-clause-fault : goal.returns-clause-fault
returns-clause-fault c =
    let named = met_is c.in_ok-d64sh.field-0 _ c.in_ok-d64sh.ensures.0 c.in-Ok.matches c.in-Ok.ensures.matches _ _ c.in-Some.ensures.name c.in-Some.ensures.rows in
    let met = met_as _ named c.in-Some-named.ensures in
    let free = command_is_free c.in_ok-d64sh.field-0 [] c.in_ok-d64sh.ensures.0 in
    let none = no_fault c.in_ok-d64sh.field-0 _ c.in_ok-d64sh.ensures.0 (c.in-Ok.ensures.kinds free) in
    IfErr-weaker c.job.result _ _ (refused _ _ none met) c.job.ensures.fault
