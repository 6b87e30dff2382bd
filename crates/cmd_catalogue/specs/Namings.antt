-- How far the code has named the host files of an image.
use Rattle.cmd_catalogue.specs.Links.{Naming}
use Rattle.cmd_catalogue.specs.declared.host_files.HostFiles.{HostFiles}

-- how far they are named, by the fields of `HostFiles`
abbrev pub naming_of : HostFiles → Naming
naming_of files = record { left = files.extraction; taken = files.taken }
