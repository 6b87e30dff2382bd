use Rattle.std.proofs.Common.{◌≡◌, ℕ, List, Some, None, sym, ap, ◌∙◌, rules}
use Rattle.d64_files.proofs.Contents.{content_of_bytes}
use Rattle.d64_dos.specs.Refusal.{cause_of, refused_by, of_read_fault}
use Rattle.d64_dos.specs.declared.refusal.Refusal.TheVariants.{Directory}
use Rattle.d64_dos.proofs.ListedRows.{entry_named, named_slot, number_of_named, name_of_named}
use Rattle.d64_dos.proofs.Refusals.{refused_pattern, refused_found, refused_entry, not_refused}
use Rattle.d64_dos.proofs.read_back.read.Goals as goal

pub returns-in_err-directory-clause-refused : goal.returns-in_err-directory-clause-refused
returns-in_err-directory-clause-refused c =
    let fault = c.in_err-directory.field-0.0 in
    let known : refused_by c.from_residual.result ≡ Some (Directory fault) = search rules in
    known ∙ sym (refused_pattern c.args.image.now c.args.pattern.now fault c.in_err-directory.ensures.conditions)

pub returns-in_default-clause-refused : goal.returns-in_default-clause-refused
returns-in_default-clause-refused c =
    let found = c.in_default.ensures ∙ ap (λ (image : List (List ℕ)). entry_named image c.args.pattern.now) c.in_ok-directory.ensures.image in
    sym (refused_found c.args.image.now c.args.pattern.now None c.in_ok-directory.ensures.conditions (number_of_named c.args.image.now c.args.pattern.now None found))

pub returns-in_err-bytes-clause-refused : goal.returns-in_err-bytes-clause-refused
returns-in_err-bytes-clause-refused c =
    let slot = named_slot c.args.image.now c.in_ok-directory.directory c.args.pattern.now c.in-Some.entry c.in_ok-directory.ensures.image c.in-Some.ensures in
    let fault = c.in_err-bytes.field-0.0 in
    let known : refused_by c.from_residual-in_err-bytes.result ≡ cause_of (of_read_fault fault) = search rules in
    known
    ∙ refused_entry c.args.image.now c.args.pattern.now c.in-Some.entry fault c.in_ok-directory.ensures.conditions slot.number slot.bytes
    c.in_err-bytes.ensures.refused

pub returns-in_err-name-clause-refused : goal.returns-in_err-name-clause-refused
returns-in_err-name-clause-refused c =
    let slot = named_slot c.args.image.now c.in_ok-directory.directory c.args.pattern.now c.in-Some.entry c.in_ok-directory.ensures.image c.in-Some.ensures in
    let wants_memory : refused_by c.from_residual-in_err-name.result ≡ None = search rules in
    wants_memory
    ∙ sym (not_refused c.args.image.now c.args.pattern.now c.in-Some.entry c.in_ok-directory.ensures.conditions slot.number slot.bytes c.in_ok-bytes.ensures.refused)

pub returns-clause-refused : goal.returns-clause-refused
returns-clause-refused c =
    let slot = named_slot c.args.image.now c.in_ok-directory.directory c.args.pattern.now c.in-Some.entry c.in_ok-directory.ensures.image c.in-Some.ensures in
    sym (not_refused c.args.image.now c.args.pattern.now c.in-Some.entry c.in_ok-directory.ensures.conditions slot.number slot.bytes c.in_ok-bytes.ensures.refused)

pub returns-clause-back : goal.returns-clause-back
returns-clause-back c =
    let image = c.args.image.now in
    let entry = c.in-Some.entry in
    let slot = named_slot image c.in_ok-directory.directory c.args.pattern.now entry c.in_ok-directory.ensures.image c.in-Some.ensures in
    record {
      slot = entry.slot;
      found = sym slot.number;
      is_name = c.in_ok-name.ensures.items ∙ c.name.ensures ∙ name_of_named image entry slot.bytes;
      is_content = c.in_ok-bytes.ensures.bytes ∙ sym (content_of_bytes image entry.slot entry.bytes slot.bytes);
    }
