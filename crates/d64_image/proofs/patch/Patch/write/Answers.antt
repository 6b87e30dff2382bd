use Rattle.std.proofs.Common.{ℕ, length, ap, sym, ◌∙◌, subst, arith}
use Rattle.std.proofs.lemmas.List.{length-set}
use Rattle.d64_image.specs.Image.{sector_at, with_sector}
use Rattle.d64_image.specs.Patch.{IsPatchOf, RisesBetween, restored_image, with_kept}
use Rattle.d64_image.proofs.Patches.{with_kept-again, rises-with_kept, restored_image-written}
use Rattle.d64_image.proofs.patch.Patch.write.Goals as goal
use Rattle.d64_image.proofs.patch.Patch.write.Goals.{then-not-keeps+in_ok-keep, else-not-keeps}

-- the bytes from before are kept, or were kept already
pub returns-clause-kept : goal.returns-clause-kept
returns-clause-kept c = elim c.if-not-keeps.branch [
  | then-not-keeps+in_ok-keep w ↦ w.self-is ∙ w.in_ok-keep.ensures.kept ∙ ap (with_kept c.args.self.now c.args.block) w.sector.ensures.value
  | else-not-keeps w ↦ w.self-is ∙ sym (with_kept-again c.args.self.now c.args.block (sector_at c.args.image.now c.args.block) (sym c.keeps.ensures ∙ w.if-not-keeps.false))
]

-- what is written and what is kept go together, and the image has each kept block
pub returns-clause-back : goal.returns-clause-back
returns-clause-back c = (
  ap (restored_image (with_sector c.args.image.now c.args.block c.args.bytes.now)) (returns-clause-kept c)
      ∙ restored_image-written c.args.self.now c.args.image.now c.args.block c.args.bytes.now,
  λ h.
      let image = c.args.image.now in
      let kept = rises-with_kept c.args.self.now 0 (length image) c.args.block (sector_at image c.args.block) h (omega arith) c.requires in
      subst (λ (n : ℕ). RisesBetween 0 n c.if-not-keeps.self) (sym (length-set image c.args.block c.args.bytes.now))
      (subst (IsPatchOf image) (sym (returns-clause-kept c)) kept),
)
