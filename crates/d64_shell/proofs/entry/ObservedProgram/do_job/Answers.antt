-- The work of a script's job is the script.
use Rattle.std.proofs.Common.{◌≡◌, ℕ, List, Option, map, option_copied, option_map, rules, ap, ap₂, ◌∙◌}
use Rattle.std.specs.Prelude.{string_bytes}
use Rattle.std.specs.Option.{option_and_then}
use Rattle.cmd_shell.specs.Transcript.{RunOptions, home_of}
use Rattle.script_commands.specs.declared.observer.Refusals.{Refusals}
use Rattle.cmd_shell.specs.declared.blank_disk.BlankDisk.{BlankDisk}
use Rattle.cmd_shell.specs.Beginnings.{beginning_of, blank_disk_of, refusals_of, source_of}
use Rattle.d64_shell.specs.Jobs.{work_of}
use Rattle.d64_shell.proofs.JobEnds.{script_ended}
use Rattle.d64_shell.proofs.entry.ObservedProgram.do_job.Goals as goal

pub returns-in-Shell-clause-ended : goal.returns-in-Shell-clause-ended
returns-in-Shell-clause-ended g c =
    let image : option_copied c.as_deref.result ≡ option_map string_bytes c.in-Shell.image = search rules in
    let resume : option_copied c.as_deref-in-Shell.result ≡ option_map string_bytes c.in-Shell.resume = search rules in
    let options : (h : Option (List ℕ)) → Refusals → RunOptions = λ h r. record { home = h; refusals = r } in
    script_ended c.args.job
    (beginning_of (option_map string_bytes c.in-Shell.image) (blank_disk_of c.in-Shell.tracks) (option_map string_bytes c.in-Shell.resume))
    (beginning_of (option_copied c.as_deref.result) c.of.result (option_copied c.as_deref-in-Shell.result))
    (source_of (map string_bytes c.in-Shell.lines.items)) (source_of (map string_bytes c.as_slice.result.now))
    (record { home = option_and_then home_of (option_map string_bytes c.in-Shell.image); refusals = refusals_of c.in-Shell.stops_at_refusal })
    (record { home = option_and_then home_of (option_copied c.as_deref.result); refusals = c.refusals_of.result })
    _ _ c.run_script.result
    (ap work_of c.in-Shell.is)
    (ap₂ (λ (i : Option (List ℕ)) (r : Option (List ℕ)). beginning_of i c.of.result r) image resume
    ∙ ap (λ (d : BlankDisk). beginning_of (option_map string_bytes c.in-Shell.image) d (option_map string_bytes c.in-Shell.resume)) c.of.ensures)
    (ap source_of (ap (map string_bytes) c.as_slice.ensures.value))
    (ap₂ options (ap (option_and_then home_of) image) c.refusals_of.ensures)
    c.run_script.ensures.ended
