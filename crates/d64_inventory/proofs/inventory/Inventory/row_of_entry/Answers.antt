use Rattle.std.proofs.Common.{ℕ, List, ap, ◌∙◌}
use Rattle.std.specs.Prelude.{option_map, count_by}
use Rattle.std.specs.FinSet as set
use Rattle.d64_survey.specs.Dump.{DumpView}
use Rattle.d64_survey.specs.Flaws.{why, wholeness_by, wholeness}
use Rattle.d64_survey.specs.declared.owner.Part.TheVariants.{Data, Side}
use Rattle.d64_survey.specs.declared.read_error.ReadError.{ReadError}
use Rattle.d64_inventory.specs.Contents.{content_of, digested_content}
use Rattle.d64_inventory.specs.Conditions.{conditions}
use Rattle.d64_inventory.specs.Rows.{is_of_file, way_length, error_count}
use Rattle.d64_inventory.proofs.FileTests.{count_same}
use Rattle.d64_inventory.proofs.RowFacts.{row_is}
use Rattle.d64_inventory.proofs.inventory.Inventory.row_of_entry.Goals as goal

pub returns-clause-row : goal.returns-clause-row
returns-clause-row c =
    let dump = c.args.self.now in
    let bytes = c.args.entry.now.bytes in
    row_is dump (c.args.entry.now.slot, bytes) _ (record {
      slot = c.place.ensures ∙ c.slot.ensures;
      field = c.field_of.ensures;
      kind = c.known_kind.ensures;
      type_byte = c.type_byte.ensures;
      closed = c.closed.ensures;
      locked = c.locked.ensures;
      size = c.blocks-2.ensures;
      first = c.first_pair.ensures;
      record_length = c.record_length.ensures;
      blocks = c.way_length.ensures ∙ ap (λ (d : DumpView). way_length d.image bytes Data) c.self.view_is;
      side = c.way_length-2.ensures ∙ ap (λ (d : DumpView). way_length d.image bytes Side) c.self.view_is;
      content = c.content.ensures.content ∙ ap (λ (i : List (List ℕ)). option_map digested_content (content_of i bytes)) c.image.ensures ∙ ap (λ (d : DumpView). option_map digested_content (content_of d.image bytes)) c.self.view_is;
      whole = c.wholeness.ensures ∙ ap (wholeness_by bytes) (c.as_slice.ensures.value ∙ c.why-why.ensures) ∙ ap (λ (d : DumpView). wholeness d.image d.codes bytes) c.self.view_is;
      why = c.why-why.ensures ∙ ap (λ (d : DumpView). why d.image d.codes bytes) c.self.view_is;
      conditions = c.conditions.ensures ∙ ap (λ (i : List (List ℕ)). conditions i c.args.entry.now.slot) c.survey-survey.ensures ∙ ap (λ (d : DumpView). conditions d.image c.args.entry.now.slot) c.self.view_is;
      read_errors =
          c.count_errors.ensures
          ∙ count_same (λ (error : ReadError). set.contains c.of-file.result.members error.block) (λ (error : ReadError). is_of_file c.survey-survey.result.now bytes error.block)
          (λ error. c.of-file.ensures.members error.block) c.read_errors.result.now
          ∙ ap (λ (i : List (List ℕ)). count_by (λ (error : ReadError). is_of_file i bytes error.block) c.read_errors.result.now) c.survey-survey.ensures
          ∙ ap (λ (es : List ReadError). count_by (λ (error : ReadError). is_of_file c.self.inside.inspection.now.image bytes error.block) es) c.read_errors.ensures
          ∙ ap (λ (d : DumpView). error_count d bytes) c.self.view_is;
    })
