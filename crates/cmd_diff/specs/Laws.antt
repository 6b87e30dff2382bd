-- What follows from the definition of a difference.
use Rattle.std.specs.Prelude.{◌≡◌, [], Some, Ok}
use Rattle.d64_image.specs.Disk.{Bytes}
use Rattle.d64_survey.specs.Dump.{DumpView, IsDump}
use Rattle.d64_g64.specs.DumpOf.{dump_of}
use Rattle.program_arguments.specs.declared.jobs.DiffForm.{DiffForm}
use Rattle.cmd_diff.specs.Changes.{changes}
use Rattle.cmd_diff.specs.Differences.{difference_rule, silence}

-- nothing changes from a dump to itself
abbrev pub NoChangeToItself : Type 0
NoChangeToItself = (dump : DumpView) → changes dump dump ≡ []

-- nothing is printed of two files that are the same dump
abbrev pub EqualDumpsAreSilent : Type 0
EqualDumpsAreSilent =
    (form : DiffForm) (old_name new_name old new : Bytes) (dump : DumpView)
    → dump_of old ≡ Some dump
    → dump_of new ≡ Some dump
    → difference_rule form old_name (Ok old) new_name (Ok new) ≡ silence

-- if no change is listed, the images are equal: each byte of an image that differs is listed
abbrev pub EachByteOfImagesIsListed : Type 0
EachByteOfImagesIsListed = (old new : DumpView) → IsDump old → IsDump new → changes old new ≡ [] → old.image ≡ new.image
