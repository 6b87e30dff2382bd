use Rattle.std.proofs.Common.{◌≡◌, ℕ, List, Some, None, sym, ap, ◌∙◌, subst, rules}
use Rattle.std.specs.Prelude.{IfOk}
use Rattle.d64_files.specs.Directory.{slots, entries}
use Rattle.d64_files.specs.Reading.{read_refused_by}
use Rattle.d64_files.specs.declared.reading.ReadFault.TheVariants.{Directory}
use Rattle.d64_files.proofs.Contents.{refused_directory, refused_slot, found_bytes, no_bytes, content_of_bytes}
use Rattle.d64_files.proofs.reading.content.Goals as goal

pub returns-in_err-directory-clause-refused : goal.returns-in_err-directory-clause-refused
returns-in_err-directory-clause-refused c =
    let fault = c.in_err-directory.field-0.0 in
    let known : read_refused_by c.from_residual.result ≡ Some (Directory fault) = search rules in
    known ∙ refused_directory c.args.image.now c.args.slot fault c.in_err-directory.ensures.conditions

pub returns-in-None-clause-refused : goal.returns-in-None-clause-refused
returns-in-None-clause-refused c =
    let walk = c.slots.ensures.slots ∙ ap (λ (image : List (List ℕ)). entries image (slots image)) c.in_ok-directory.ensures.image in
    sym (refused_slot c.args.image.now c.args.slot None c.in_ok-directory.ensures.conditions (no_bytes c.args.image.now c.args.slot c.slots.result walk c.in-None.ensures))

pub returns-in-Some-clause-refused : goal.returns-in-Some-clause-refused
returns-in-Some-clause-refused c =
    let walk = c.slots.ensures.slots ∙ ap (λ (image : List (List ℕ)). entries image (slots image)) c.in_ok-directory.ensures.image in
    c.entry_content.ensures.refused
    ∙ sym (refused_slot c.args.image.now c.args.slot (Some c.in-Some.entry.bytes) c.in_ok-directory.ensures.conditions
    (found_bytes c.args.image.now c.args.slot c.slots.result c.in-Some.entry walk c.in-Some.ensures))

pub returns-in-Some-clause-bytes : goal.returns-in-Some-clause-bytes
returns-in-Some-clause-bytes c =
    let walk = c.slots.ensures.slots ∙ ap (λ (image : List (List ℕ)). entries image (slots image)) c.in_ok-directory.ensures.image in
    subst (λ (content : List ℕ). IfOk c.entry_content.result (λ bytes. bytes.items ≡ content))
    (sym (content_of_bytes c.args.image.now c.args.slot c.in-Some.entry.bytes
    (found_bytes c.args.image.now c.args.slot c.slots.result c.in-Some.entry walk c.in-Some.ensures)))
    c.entry_content.ensures.bytes
