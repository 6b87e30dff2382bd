-- The texts of the faults of arguments.
use Rattle.std.specs.Prelude.{List, ℕ, Option, None, Some, codes}
use Rattle.program_arguments.specs.declared.jobs.JobFault.{JobFault}
use Rattle.program_arguments.specs.declared.jobs.JobFault.TheVariants.{Arguments, Start, Memory, Tracks, Both, Format, Names, Null, Picture, Difference, Folder, Title, Links, Output, Dumps}

-- the text of a fault; None for an error of clap's, which has its own
abbrev pub fault_text_of : JobFault → Option (List ℕ)
fault_text_of (Arguments error) = None
fault_text_of Start = Some (codes "usage: --start takes one to four hexadecimal digits")
fault_text_of Memory = Some (codes "out of memory")
fault_text_of Tracks = Some (codes "usage: --tracks takes 35 or 40 and no IMAGE")
fault_text_of Both = Some (codes "usage: --resume and --tracks exclude each other")
fault_text_of Format = Some (codes "usage: --format takes text, json or csv")
fault_text_of Names = Some (codes "usage: give either FILE.. or --files-from LIST")
fault_text_of Null = Some (codes "usage: --null needs --files-from")
fault_text_of Picture = Some (codes "usage: --format takes text or svg")
fault_text_of Difference = Some (codes "usage: --format takes text or json")
fault_text_of Folder = Some (codes "usage: --into takes the name of a folder")
fault_text_of Title = Some (codes "usage: --title takes a text")
fault_text_of Links = Some (codes "usage: --links takes the name of a folder")
fault_text_of Output = Some (codes "usage: merge needs --output OUT")
fault_text_of Dumps = Some (codes "usage: give one FILE or more")
