use Rattle.std.proofs.Common.{◌≡◌, [], sym, ap, ◌∙◌}
use Rattle.std.proofs.Math.ListN.{replicate}
use Rattle.std.proofs.lemmas.List.{set-get_or}
use Rattle.std.proofs.lemmas.Slice.Eq.{bytes_eq-Decides}
use Rattle.d64_image.specs.Image.{with_sector}
use Rattle.d64_dos.proofs.format.blank_block.Goals as goal

pub returns-then-eq-clause-blank : goal.returns-then-eq-clause-blank
returns-then-eq-clause-blank c =
    let image = c.args.image.now in
    let same : c.sector.result.now ≡ replicate 256 0 =
    (bytes_eq-Decides c.sector.result.now (replicate 256 0)).0 (sym c.eq.ensures ∙ c.if-eq.true) in
    sym (set-get_or image c.args.block [])
    ∙ ap (with_sector image c.args.block) (sym c.sector.ensures.value ∙ same)
