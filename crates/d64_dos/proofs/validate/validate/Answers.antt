use Rattle.std.proofs.Common.{◌≡◌, ℕ, List, length, sym, ap, ap₂, ◌∙◌, subst}
use Rattle.d64_image.specs.BlockSet.{MembersAreBelow}
use Rattle.d64_map.specs.Map.{with_map}
use Rattle.d64_files.specs.Directory.{owned_blocks}
use Rattle.d64_effects.specs.Clear.{with_cleared}
use Rattle.d64_effects.specs.Validate.{unclosed_slots, validated_disk}
use Rattle.d64_effects.proofs.Lengths.{length-with_cleared}
use Rattle.d64_effects.proofs.ValidatedDisks.{members-all_but}
use Rattle.d64_dos.proofs.validate.validate.Goals as goal

pub returns-clause-image : goal.returns-clause-image
unfolding validated_disk
returns-clause-image c =
    let image = c.args.image.now in
    let places : c.as_slice.result.now ≡ unclosed_slots image =
    c.as_slice.ensures.value ∙ c.unclosed_slots-unclosed.ensures ∙ ap (λ (one : List (List ℕ)). unclosed_slots one) c.in_ok-of.ensures.image in
    c.in_ok-put_map.ensures.written
    ∙ ap₂ with_map (c.in_ok-clear_slots.ensures.cleared ∙ ap (with_cleared image) places) (c.all_but-others.ensures (owned_blocks image) c.in_ok-owned.ensures.verdict.1)

-- what nobody owns are blocks of the image
pub put_map-requires : goal.put_map-requires
put_map-requires c =
    let image = c.args.image.now in
    let long = ap length c.in_ok-clear_slots.ensures.cleared ∙ length-with_cleared image c.as_slice.result.now in
    record {
      members = subst (λ (n : ℕ). MembersAreBelow n c.all_but-others.result) (sym long)
          (subst (MembersAreBelow (length image)) (sym (c.all_but-others.ensures (owned_blocks image) c.in_ok-owned.ensures.verdict.1)) (members-all_but (length image) (owned_blocks image)));
    }
