use Rattle.std.proofs.Common.{ℕ, length, sym, ap, ap₂, ◌∙◌, subst}
use Rattle.d64_image.specs.BlockSet.{MembersAreBelow}
use Rattle.d64_map.specs.Map.{with_map}
use Rattle.d64_effects.specs.Undelete.{chain_left, undeleted_disk}
use Rattle.d64_effects.proofs.WrittenImages.{left_are_blocks}
use Rattle.d64_dos.proofs.Restored.{disk_back, length-with_type}
use Rattle.d64_dos.proofs.undelete.undelete.Goals as goal

-- the blocks that are left free are those of the image
pub put_map-requires : goal.put_map-requires
put_map-requires c =
    let image = c.args.image.now in
    let found = c.in_ok-found.found in
    let long = ap length c.in_ok-set_type.ensures.typed ∙ length-with_type image found.slot c.args.kind in
    record {
      members = subst (λ (n : ℕ). MembersAreBelow n found.free) (sym long)
          (subst (MembersAreBelow (length image)) (sym c.in_ok-found.ensures.is.free) (left_are_blocks image (chain_left image found.slot)));
    }

pub returns-clause-image : goal.returns-clause-image
unfolding undeleted_disk
returns-clause-image c =
    let image = c.args.image.now in
    let found = c.in_ok-found.found in
    c.in_ok-put_map.ensures.written ∙ ap₂ with_map c.in_ok-set_type.ensures.typed c.in_ok-found.ensures.is.free
    ∙ sym (disk_back image c.args.name.now c.args.kind found.slot c.in_ok-found.ensures.slot)
