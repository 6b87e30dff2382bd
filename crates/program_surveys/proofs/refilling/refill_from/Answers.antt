use Rattle.std.proofs.Common.{◌≡◌, ℕ, Bool, Option, Some, None, Err, length, sym, ap, ◌∙◌, subst}
use Rattle.std.specs.Prelude.{OnOk, if◌then◌else◌, is_some}
use Rattle.d64_survey.specs.Dump.{DumpView, wrong_dump_length, image_bytes}
use Rattle.d64_survey.specs.declared.dump.DumpFault.{DumpFault}
use Rattle.d64_g64.proofs.Dumps.{dump_of-bytes, no_part, a_part, no_d64}
use Rattle.program_surveys.proofs.refilling.refill_from.Goals as goal

pub returns-in-Ok-clause-refused : goal.returns-in-Ok-clause-refused
returns-in-Ok-clause-refused c =
    let file = c.args.file.now in
    sym (ap (λ (o : Option DumpView). if is_some o then None else Some (length file)) (dump_of-bytes c.refill.new.self file c.in-Ok.ensures.dump c.in-Ok.ensures.filled))

pub returns-in-Ok-clause-filled : goal.returns-in-Ok-clause-filled
returns-in-Ok-clause-filled c = dump_of-bytes c.refill.new.self c.args.file.now c.in-Ok.ensures.dump c.in-Ok.ensures.filled

pub returns-in-Err-WrongLength-clause-refused : goal.returns-in-Err-WrongLength-clause-refused
returns-in-Err-WrongLength-clause-refused c =
    let file = c.args.file.now in
    let none = no_part _ (image_bytes (length file)) _ _ (ap (λ (f : DumpFault). wrong_dump_length {A = Unit {0}} (Err f)) c.in-Err-WrongLength.field-0-is) c.in-Err-WrongLength.ensures.refused in
    c.refill_from_g64.ensures.refused ∙ ap (λ (o : Option DumpView). if is_some o then None else Some (length file)) (no_d64 file none)

pub returns-in-Err-WrongLength-clause-filled : goal.returns-in-Err-WrongLength-clause-filled
returns-in-Err-WrongLength-clause-filled c =
    let file = c.args.file.now in
    let none = no_part _ (image_bytes (length file)) _ _ (ap (λ (f : DumpFault). wrong_dump_length {A = Unit {0}} (Err f)) c.in-Err-WrongLength.field-0-is) c.in-Err-WrongLength.ensures.refused in
    subst (λ (o : Option DumpView). OnOk c.refill_from_g64.result (o ≡ Some c.refill_from_g64.new.dump)) (no_d64 file none) c.refill_from_g64.ensures.filled

pub returns-in-Err-Memory-clause-refused : goal.returns-in-Err-Memory-clause-refused
returns-in-Err-Memory-clause-refused c =
    let file = c.args.file.now in
    let known = ap (λ (f : DumpFault). wrong_dump_length {A = Unit {0}} (Err f)) c.in-Err-Memory.field-0-is in
    ap (λ (b : Bool). if b then None else Some (length file)) (sym (a_part file (length file) (sym known ∙ c.in-Err-Memory.ensures.refused)))
