-- What is done with a file, by what is given of it.
use Rattle.std.proofs.Common.{◌≡◌, ℕ, Bool, true, false, cond, List, Option, Some, None, sym, ap, ◌∙◌}
use Rattle.std.specs.Str.{is_utf8}
use Rattle.d64_survey.specs.Dump.{DumpView}
use Rattle.d64_g64.specs.DumpOf.{dump_of}
use Rattle.host_names.specs.ImagePlace.{folders_of}
use Rattle.cmd_extract.specs.Setup.{ExtractSetupView}
use Rattle.host_names.specs.Paths.{done_path, partial_path}
use Rattle.cmd_extract.specs.Work.{Done}
use Rattle.cmd_extract.specs.Unpacking.{unread_outcome, dump_work, unpacking, task_work, task_work_with, task_of}

-- it cannot be read
pub given_none : (setup : ExtractSetupView) (name : List ℕ) (given : Option (List ℕ)) → given ≡ None → Done (unread_outcome setup name) ≡ unpacking setup name given
unfolding unpacking
given_none setup name given is = sym (ap (unpacking setup name) is)

-- its name is no text
pub given_no_text : (setup : ExtractSetupView) (name : List ℕ) (given : Option (List ℕ)) (bytes : List ℕ) → given ≡ Some bytes → is_utf8 name ≡ false → Done (unread_outcome setup name) ≡ unpacking setup name given
unfolding unpacking
given_no_text setup name given bytes is test =
    sym (ap (unpacking setup name) is ∙ ap (λ (t : Bool). cond t (dump_work setup name bytes (dump_of bytes)) (Done (unread_outcome setup name))) test)

-- its name is one, and its bytes are given
pub given_text : (setup : ExtractSetupView) (name : List ℕ) (given : Option (List ℕ)) (bytes : List ℕ) (dump : Option DumpView) → given ≡ Some bytes → is_utf8 name ≡ true → dump_of bytes ≡ dump
    → dump_work setup name bytes dump ≡ unpacking setup name given
unfolding unpacking
given_text setup name given bytes dump is test is_dump =
    sym (ap (unpacking setup name) is ∙ ap (λ (t : Bool). cond t (dump_work setup name bytes (dump_of bytes)) (Done (unread_outcome setup name))) test ∙ ap (dump_work setup name bytes) is_dump)

-- the task that is made of a dump, part by part
pub task_made : (setup had : ExtractSetupView) (name : List ℕ) (dump all : DumpView) (done partial : List ℕ) (folders : List (List ℕ)) → had ≡ setup → all ≡ dump → done ≡ done_path setup.into name
    → partial ≡ partial_path setup.into name → folders ≡ folders_of name
    → task_work_with (record { setup = had; name = name; dump = all; done = done; partial = partial }) folders ≡ task_work (task_of setup name dump)
task_made setup had name dump all done partial folders is_setup is_dump is_done is_partial is_folders =
    λ i. task_work_with (record { setup = is_setup i; name = name; dump = is_dump i; done = is_done i; partial = is_partial i }) (is_folders i)
