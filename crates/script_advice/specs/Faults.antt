-- Plain texts for faults.
use Rattle.std.specs.Prelude.{codes}
use Rattle.d64_image.specs.Disk.{Bytes}
use Rattle.d64_files.specs.declared.dir_fault.DirFault.{DirFault}
use Rattle.d64_files.specs.declared.dir_fault.DirFault.TheVariants.{WrongCounts, NoDirectory, UnknownKind, NoChain, CrossLinked, MarkedFree}
use Rattle.cbm_text.specs.Causes.{cause_words}
use Rattle.cbm_text.specs.declared.cause.Cause.TheVariants as causes
use Rattle.cbm_text.specs.declared.fault.BasicFault.{BasicFault}
use Rattle.cbm_text.specs.declared.fault.BasicFault.TheVariants.{NoNumber, NumberTooLarge, Text, TokenByte, ZeroByte, TooLong, Memory}

-- what is wrong with a disk that is not sound
abbrev pub directory_fault : DirFault → Bytes
directory_fault WrongCounts = codes "a track's count of free sectors is wrong"
directory_fault NoDirectory = codes "the directory's chain leaves the disk or loops"
directory_fault UnknownKind = codes "an entry has an unknown file type"
directory_fault NoChain = codes "a file's chain leaves the disk or loops"
directory_fault CrossLinked = codes "a block has two owners"
directory_fault MarkedFree = codes "a block in use is marked free"

-- what is wrong with a text that is not a BASIC program
abbrev pub basic_fault : BasicFault → Bytes
basic_fault (NoNumber line) = cause_words causes.NoNumber
basic_fault (NumberTooLarge line) = cause_words causes.NumberTooLarge
basic_fault (Text line fault) = codes "the text after the line number is not valid"
basic_fault (TokenByte line) = cause_words causes.TokenByte
basic_fault (ZeroByte line) = cause_words causes.ZeroByte
basic_fault (TooLong line) = cause_words causes.TooLong
basic_fault (Memory error) = codes "out of memory"
