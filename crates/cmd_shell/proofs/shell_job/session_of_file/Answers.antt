use Rattle.std.proofs.Common.{◌∙◌, Ok, Err, ap, sym, refl, subst}
use Rattle.host_storage.specs.Host.{one_more_failure}
use Rattle.host_storage.specs.declared.host.HostFault.TheVariants.{Device, TooLong}
use Rattle.d64_history.specs.FromReader.{IsReadFault}
use Rattle.d64_history.specs.SessionFile.{file_of}
use Rattle.d64_history.specs.declared.from_reader.SessionReadFault.{SessionReadFault}
use Rattle.cmd_shell.specs.ShellRuns.{GivesNoSession, session_limit}
use Rattle.program_console.specs.declared.program_fault.ProgramFault.{ProgramFault}
use Rattle.cmd_shell.proofs.SessionFiles.{fetches_failed, fetches_none, fetches_read, fetches_too_long, gives_none}
use Rattle.cmd_shell.proofs.shell_job.session_of_file.Goals as goal

-- the file cannot be opened
pub returns-in-Err-clause-none : goal.returns-in-Err-clause-none
returns-in-Err-clause-none g c =
    let opened = c.in-Err.ensures in (
      Err c.in-Err.fault,
      record {
        response = fetches_none (g.H.Host.state c.args.host.now).files c.args.name.now session_limit c.in-Err.fault opened.returned;
        bytes = tt;
        counted = opened.counted;
        kept = opened.files_kept;
      },
      c.of_file.ensures,
    )

-- the session of all that was read
pub returns-in-Ok-resume_from-clause-session : goal.returns-in-Ok-resume_from-clause-session
returns-in-Ok-resume_from-clause-session g c =
    let opened = c.in-Ok.ensures in
    let read = c.in-Ok-resume_from.ensures.session in (
      read.0,
      record {
        response = fetches_read (g.H.Host.state c.args.host.now).files c.args.name.now session_limit (g.H.File.Read.remaining c.in-Ok.file) (file_of c.in-Ok-resume_from.session)
            opened.returned read.3 read.2;
        bytes = read.1;
        counted = opened.counted;
        kept = opened.files_kept;
      },
    )

-- what was read is no session file
pub returns-in-Err-Resume-clause-none : goal.returns-in-Err-Resume-clause-none
returns-in-Err-Resume-clause-none g c =
    let opened = c.in-Ok.ensures in
    let read = subst (λ (fault : SessionReadFault). IsReadFault (g.H.File.Read.remaining c.in-Ok.file) session_limit fault) c.in-Err-Resume.field-0-is c.in-Err-Resume.ensures.fault in (
      Ok read.0,
      record {
        response = fetches_read (g.H.Host.state c.args.host.now).files c.args.name.now session_limit (g.H.File.Read.remaining c.in-Ok.file) read.0
            opened.returned read.2 read.3;
        bytes = read.1;
        counted = opened.counted;
        kept = opened.files_kept;
      },
      subst (λ (reported : ProgramFault). GivesNoSession (Ok read.0) reported) (sym c.fault_of_resume.ensures) (gives_none c.in-Err-Resume.fault read.0 read.4),
    )

-- there is more than may be read
pub returns-in-Err-TooLong-clause-none : goal.returns-in-Err-TooLong-clause-none
returns-in-Err-TooLong-clause-none g c =
    let opened = c.in-Ok.ensures in (
      Err TooLong,
      record {
        response = fetches_too_long (g.H.Host.state c.args.host.now).files c.args.name.now session_limit (g.H.File.Read.remaining c.in-Ok.file)
            opened.returned (subst (λ (fault : SessionReadFault). IsReadFault (g.H.File.Read.remaining c.in-Ok.file) session_limit fault) c.in-Err-TooLong.field-0-is c.in-Err-TooLong.ensures.fault);
        bytes = tt;
        counted = opened.counted;
        kept = opened.files_kept;
      },
      refl,
    )

-- a read failed
pub returns-clause-none : goal.returns-clause-none
returns-clause-none g c =
    let opened = c.in-Ok.ensures in (
      Err Device,
      record {
        response = fetches_failed (g.H.Host.state c.args.host.now).files c.args.name.now session_limit Device tt;
        bytes = tt;
        counted = c.count_failed_read.ensures.counted ∙ ap one_more_failure opened.counted;
        kept = c.count_failed_read.ensures.files_kept ∙ opened.files_kept;
      },
      refl,
    )
