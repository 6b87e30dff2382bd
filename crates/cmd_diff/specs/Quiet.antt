-- Why `diff` writes nothing to the standard error about files that it calls clean.
use Rattle.std.specs.Prelude.{◌≡◌, ℕ, Bool, true, false, if◌then◌else◌, List, [], Option, Some, None, Ok, Err, refl}
use Rattle.d64_image.specs.Disk.{Bytes}
use Rattle.d64_survey.specs.Dump.{DumpView}
use Rattle.program_surveys.specs.declared.report.Verdict.TheVariants.{Clean}
use Rattle.d64_g64.specs.DumpOf.{dump_of}
use Rattle.program_arguments.specs.declared.jobs.DiffForm.{DiffForm}
use Rattle.cmd_diff.specs.Differences.{are_same, silence, amiss_with, difference_by, difference_rule}
use Rattle.program_surveys.specs.FileContents.{Contents}

-- neither result has a complaint
either-is_quiet : (equal : Bool) (printed : List ℕ) → (if equal then silence else amiss_with printed).complaint ≡ []
either-is_quiet true printed = refl
either-is_quiet false printed = refl

difference_by-is_quiet : (form : DiffForm) (old_name old new_name new : Bytes) (old_dump new_dump : Option DumpView)
    → (difference_by form old_name old new_name new old_dump new_dump).verdict ≡ Clean → (difference_by form old_name old new_name new old_dump new_dump).complaint ≡ []
difference_by-is_quiet form old_name old new_name new (Some old_dump) (Some new_dump) clean = either-is_quiet (are_same old_dump new_dump) _
difference_by-is_quiet form old_name old new_name new (Some old_dump) None clean = cc
difference_by-is_quiet form old_name old new_name new None new_dump clean = cc

-- a clean result has no complaint
pub difference_rule-is_quiet : (form : DiffForm) (old_name : Bytes) (old : Contents) (new_name : Bytes) (new : Contents)
    → (difference_rule form old_name old new_name new).verdict ≡ Clean → (difference_rule form old_name old new_name new).complaint ≡ []
difference_rule-is_quiet form old_name (Ok old) new_name (Ok new) clean = difference_by-is_quiet form old_name old new_name new (dump_of old) (dump_of new) clean
difference_rule-is_quiet form old_name (Ok old) new_name (Err reason) clean = cc
difference_rule-is_quiet form old_name (Err reason) new_name new clean = cc
