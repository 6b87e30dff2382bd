use Rattle.std.proofs.Common.{◌≡◌, ◌∙◌, ℕ, List, None, Ok, false, refl, sym, subst, rules}
use Rattle.d64_dos.specs.Reading.{read_refusal}
use Rattle.script_lines.specs.declared.status.Status.TheVariants.{Done}
use Rattle.script_lines.specs.Act.{Expand, Does, LineResponse, World}
use Rattle.script_lines.specs.FoundFile.{found_content}
use Rattle.script_lines.specs.Line.{show, show_program}
use Rattle.d64_history.specs.History.{present_image}
use Rattle.script_lines.proofs.Acts.{Does-given, Does-refused, Does-refuse_by}
use Rattle.script_lines.proofs.FoundFiles.{found_content-read}
use Rattle.script_commands.proofs.Refused.{responds_refused}
use Rattle.script_commands.proofs.handlers.show_program.Goals as goal

pub returns : goal.returns
unfolding Does
returns c = λ host.
    let history = c.args.session.now in
    let pattern = c.args.pattern.now in
    let got : c.read.result ≡ Ok c.in_ok-file.file = search rules in
    let refused : None ≡ read_refusal (present_image history) pattern = rw (c.image.ensures.present, got) at c.read.ensures.refused in
    let bytes : c.as_slice.result.now ≡ found_content (present_image history) pattern =
    c.as_slice.ensures.value ∙ found_content-read (present_image history) pattern _ _ (rw (c.image.ensures.present, got) at c.read.ensures.back) in
    let text : List ℕ = c.in_ok-text.text.items in
    let world : World = record { host = host; history = history } in
    let response : LineResponse = record { output = text; status = Done; closes = false } in
    let shown : Does (show text history) world response world = (refl, refl) in
    subst (λ (given : LineResponse). Does (show_program history pattern) world given world) (sym (c.text.ensures (present_image history)))
    (Does-refuse_by _ _ _ _ _ refused
    (Does-given (Expand (found_content (present_image history) pattern)) (λ listing. show listing history) text host host history response world
    (rw bytes at c.in_ok-text.ensures, refl) shown))

pub returns-in_err-text : goal.returns-in_err-text
returns-in_err-text c =
    let history = c.args.session.now in
    let pattern = c.args.pattern.now in
    let got : c.read.result ≡ Ok c.in_ok-file.file = search rules in
    let refused : None ≡ read_refusal (present_image history) pattern = rw (c.image.ensures.present, got) at c.read.ensures.refused in
    let bytes : c.as_slice.result.now ≡ found_content (present_image history) pattern =
    c.as_slice.ensures.value ∙ found_content-read (present_image history) pattern _ _ (rw (c.image.ensures.present, got) at c.read.ensures.back) in
    λ host. responds_refused _ _ _ _ _ _ _ c.from_residual-in_err-text.ensures.1
    (Does-refuse_by _ _ _ _ _ refused (Does-refused _ _ _ host host _ ((c.in_err-text.field-0.0, rw bytes at c.in_err-text.ensures, refl), refl)))
