-- What a run is asked to process, as the code has it.
use Rattle.program_surveys.specs.Names.{Request, File, NoFile}
use Rattle.program_surveys.specs.declared.asked.Asked.{Asked}
use Rattle.program_surveys.specs.declared.asked.Asked.TheVariants as asked

-- the request for what is asked for
abbrev pub request_of : Asked → Request
request_of (asked.File name) = File name.now
request_of (asked.NoFile shown reason) = NoFile shown.now reason
