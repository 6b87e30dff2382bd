use Rattle.std.proofs.Common.{◌++◌, Result, Ok, Err, ap, sym, ◌∙◌, append_assoc}
use Rattle.std.specs.Prelude.{OnErr}
use Rattle.std.proofs.lemmas.Result.{err_from_is_err_and}
use Rattle.std.proofs.KnownBytes.{Appends-trans}
use Rattle.script_lines.specs.Status.{status_line}
use Rattle.script_lines.specs.Response.{output_bytes}
use Rattle.script_lines.proofs.response.Response.write.Goals as goal

-- what an error leaves, as another fact
OnErr-map : {T E : Type 0} (r : Result T E) (P Q : Type 0) → (P → Q) → OnErr r P → OnErr r Q
OnErr-map (Ok value) P Q f p = tt
OnErr-map (Err fault) P Q f p = f p

-- a part of the output was written
pub returns-in_err-write-clause-err : goal.returns-in_err-write-clause-err
returns-in_err-write-clause-err g c =
    let first = c.in_err-write.ensures.err in
    let status = status_line c.args.self.now.status in
    let p = err_from_is_err_and c.from_residual.result c.from_residual.ensures.1 in
    rw p.1
    (record {
      part = first.part;
      rest = first.rest ++ status;
      all = sym (append_assoc first.part first.rest status) ∙ ap (λ l. l ++ status) first.all;
      gained = first.gained;
    })

-- the output and a part of the status line were written
pub returns-clause-err : goal.returns-clause-err
returns-clause-err g c =
    let output = output_bytes c.args.image.now c.args.self.now.output in
    let whole = c.in_ok-write.ensures.ok in
    OnErr-map c.write-2.result _ _
    (λ second. record {
      part = output ++ second.part;
      rest = second.rest;
      all = append_assoc output second.part second.rest ∙ ap (λ l. output ++ l) (second.all ∙ c.as_slice.ensures.value ∙ c.line.ensures);
      gained = Appends-trans _ _ _ output second.part whole second.gained;
    })
    c.write-2.ensures.err
