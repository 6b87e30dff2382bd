use Rattle.std.proofs.Common.{◌≡◌, ℕ, List, length, sym, ap, ◌∙◌, subst, arith}
use Rattle.std.proofs.Math.ListN.{replicate}
use Rattle.std.proofs.lemmas.List.{length-replicate, length-set}
use Rattle.std.proofs.lemmas.Result.{on_ok_weaker}
use Rattle.d64_image.specs.declared.image.TheConstants.{BLOCK_BYTES}
use Rattle.d64_image.specs.BlockSet.{MembersAreBelow}
use Rattle.d64_image.proofs.Sizes.{size_least}
use Rattle.d64_effects.specs.Format.{blank_disk}
use Rattle.d64_effects.proofs.EmptyDisks.{members_are_below, formatted_from_parts}
use Rattle.d64_dos.proofs.format.format.Goals as goal

pub returns-clause-formatted : goal.returns-clause-formatted
returns-clause-formatted c =
    let blank = c.in_ok-blank.ensures.blank in
    let labelled = c.in_ok-write.ensures.written in
    let begun = c.in_ok-write-2.ensures.written in
    on_ok_weaker c.put_map.result
    (λ mapped. formatted_from_parts (length c.args.image.now) c.args.name.now c.args.id.now c.blank.new.image c.put_map.new.image c.map_block.result c.directory_block.result c.header.result
    c.empty_directory.result c.free_when_formatted-free.result blank c.map_block.ensures c.header.ensures c.directory_block.ensures
    c.empty_directory.ensures c.free_when_formatted-free.ensures (let e = mapped in cc))
    c.put_map.ensures.written

-- the image is as long as before after each step
long_blank : (image after : List (List ℕ)) → after ≡ blank_disk (length image) → length after ≡ length image
unfolding blank_disk
long_blank image after e = ap length e ∙ length-replicate (length image) (replicate BLOCK_BYTES 0)

pub write-requires : goal.write-requires
write-requires c =
    let least = size_least (length c.args.image.now) c.known_image.ensures.size in
    let long = long_blank c.args.image.now c.blank.new.image c.in_ok-blank.ensures.blank in
    let e = c.map_block.ensures in
    omega arith

pub write-requires-2 : goal.write-requires-2
write-requires-2 c =
    let least = size_least (length c.args.image.now) c.known_image.ensures.size in
    let long = long_blank c.args.image.now c.blank.new.image c.in_ok-blank.ensures.blank in
    let same = ap length c.in_ok-write.ensures.written ∙ length-set c.blank.new.image _ _ in
    let e = c.directory_block.ensures in
    omega arith

pub put_map-requires : goal.put_map-requires
put_map-requires c =
    let image = c.args.image.now in
    let long =
    ap length c.in_ok-write-2.ensures.written ∙ length-set c.write.new.image _ _ ∙ ap length c.in_ok-write.ensures.written ∙ length-set c.blank.new.image _ _
    ∙ long_blank image c.blank.new.image c.in_ok-blank.ensures.blank in
    record {
      members = subst (λ (n : ℕ). MembersAreBelow n c.free_when_formatted-free.result) (sym long)
          (subst (MembersAreBelow (length image)) (sym c.free_when_formatted-free.ensures) (members_are_below (length image) c.known_image.ensures.size));
    }
