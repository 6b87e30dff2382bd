-- What may be done as images are unpacked, one after another.
use Rattle.std.specs.Prelude.{Some, None}
use Rattle.program_surveys.specs.FileOutcomes.{Effects}
use Rattle.cmd_extract.specs.Setup.{ExtractSetupView}
use Rattle.cmd_extract.specs.Work.{DoesWork}
use Rattle.cmd_extract.specs.Unpacking.{unpacking}

-- each file is unpacked with these options; if memory runs out, what was done until then stays
abbrev pub unpacks : ExtractSetupView → Effects
unpacks setup = record {
  does = λ name bytes old outcome new. DoesWork (unpacking setup name bytes) old (Some outcome) new;
  halts = λ name bytes old new. DoesWork (unpacking setup name bytes) old None new;
}
