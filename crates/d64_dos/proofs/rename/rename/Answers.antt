use Rattle.std.proofs.Common.{ℕ, Option, sym, ap, ◌∙◌}
use Rattle.d64_effects.specs.Rename.{with_name_in, renamed_disk}
use Rattle.d64_dos.proofs.rename.rename.Goals as goal

pub returns-clause-image : goal.returns-clause-image
unfolding renamed_disk
returns-clause-image c =
    c.in_ok-set_name.ensures.named
    ∙ ap (λ (found : Option ℕ). with_name_in c.args.image.now found c.args.new.now) (sym c.in_ok-slot.ensures.slot)
