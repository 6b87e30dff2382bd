use Rattle.std.proofs.Common.{Bool, ◌&&◌, length, take, sym, ap, ◌∙◌}
use Rattle.std.specs.Prelude.{bytes_eq}
use Rattle.d64_files.specs.Slot.{field_of}
use Rattle.d64_files.proofs.FieldNames.{name_decides}
use Rattle.d64_files.proofs.entry.Entry.is_called.Goals as goal

pub returns-then-not-ends_at : goal.returns-then-not-ends_at
returns-then-not-ends_at c =
    let field = c.field-field.result.now in
    let text = c.bytes-bytes.result.now in
    ap (λ (b : Bool). b && bytes_eq (take (length text) field) text) (sym c.if-not-ends_at.true)
    ∙ name_decides (field_of c.args.self.now.bytes) c.args.name.now text field c.ends_at.result c.field-field.ensures.value c.field-field.ensures.len c.bytes-bytes.ensures.bytes c.bytes-bytes.ensures.name c.ends_at.ensures

pub returns : goal.returns
returns c =
    let field = c.field-field.result.now in
    let text = c.bytes-bytes.result.now in
    c.eq.ensures
    ∙ ap (λ (b : Bool). b && bytes_eq (take (length text) field) text) (sym c.if-not-ends_at.false)
    ∙ name_decides (field_of c.args.self.now.bytes) c.args.name.now text field c.ends_at.result c.field-field.ensures.value c.field-field.ensures.len c.bytes-bytes.ensures.bytes c.bytes-bytes.ensures.name c.ends_at.ensures
