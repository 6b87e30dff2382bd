use Rattle.std.proofs.Common.{IsTrue, subst, sym, true≢false}
use Rattle.program_arguments.specs.Requested.{IsOneOf}
use Rattle.program_arguments.specs.Subcommands.{reports}
use Rattle.program_console.proofs.ReportNames.{report_is_subcommand}
use Rattle.program_console.proofs.requested.is_report.Goals as goal

pub returns-in-Some : goal.returns-in-Some
returns-in-Some c =
    subst (λ name. (IsTrue c.is_report.result → IsOneOf reports name) × (IsOneOf reports name → IsTrue c.is_report.result)) c.in-Some.ensures c.is_report.ensures

pub returns-in-None : goal.returns-in-None
returns-in-None c = (λ no. absurd (true≢false (sym no)), λ one. absurd (c.in-None.ensures (report_is_subcommand c.args.name.now one)))
