-- What `map` prints of a file.
use Rattle.std.specs.Prelude.{ℕ, List, []}
use Rattle.d64_survey.specs.Dump.{DumpView}
use Rattle.d64_survey.specs.Inspection.{is_amiss}
use Rattle.program_surveys.specs.FileOutcomes.{Rule}
use Rattle.program_surveys.specs.Printings.{Printing, survey_rule}
use Rattle.program_arguments.specs.declared.jobs.PictureForm.{PictureForm}
use Rattle.program_arguments.specs.declared.jobs.PictureForm.TheVariants.{Text, Svg}
use Rattle.cmd_map.specs.MapText.{map_text}
use Rattle.out_picture.specs.Svg.{svg_of}

-- the map of a dump in a form
abbrev pub picture_of : PictureForm → List ℕ → DumpView → List ℕ
picture_of Text name dump = map_text name dump
picture_of Svg name dump = svg_of name dump

-- what `map` prints in a form: the map of a dump, and nothing else
abbrev pub map_printing : PictureForm → Printing
map_printing form = record {
  heading = [];
  of_dump = λ name bytes dump. picture_of form name dump;
  of_unread = λ name. [];
  of_no_dump = λ name bytes. [];
  is_amiss = is_amiss;
}

-- the rule of `map` in a form: the result for a file's bytes if they are a dump, and otherwise that
-- it cannot be read or that they are no dump
abbrev pub map_rule : PictureForm → Rule
map_rule form = survey_rule (map_printing form)
