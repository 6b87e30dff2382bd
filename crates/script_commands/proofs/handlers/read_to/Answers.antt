use Rattle.std.proofs.Common.{◌≡◌, ◌∙◌, None}
use Rattle.d64_dos.specs.Reading.{read_refusal}
use Rattle.script_lines.specs.FoundFile.{found_content}
use Rattle.d64_history.specs.History.{present_image}
use Rattle.script_lines.proofs.Acts.{Does-refuse_by, Does-not_allowed}
use Rattle.script_lines.proofs.FoundFiles.{found_content-read}
use Rattle.script_commands.proofs.Refused.{responds_refused}
use Rattle.script_commands.proofs.handlers.read_to.Goals as goal

pub returns : goal.returns
returns g c =
    let history = c.args.session.now in
    let pattern = c.args.pattern.now in
    let refused : None ≡ read_refusal (present_image history) pattern = rw c.image.ensures.present at c.in_ok-found.ensures.refused in
    let bytes : c.as_slice.result.now ≡ found_content (present_image history) pattern =
    c.as_slice.ensures.value ∙ found_content-read (present_image history) pattern _ _ (rw c.image.ensures.present at c.in_ok-found.ensures.back) in
    rw (← c.in_ok-name.ensures) (Does-refuse_by _ _ _ _ _ refused (rw bytes at (c.store.ensures history)))

pub returns-in_err-found : goal.returns-in_err-found
returns-in_err-found g c =
    rw (← c.in_ok-name.ensures)
    (responds_refused _ _ _ _ _ _ _ c.from_residual-in_err-found.ensures.1
    (Does-not_allowed c.in_err-found.field-0.0 _ _ _ _ (rw c.image.ensures.present at c.in_err-found.ensures.refused)))
