use Rattle.std.proofs.Common.{◌≡◌, ℕ, ◌<◌, ◌++◌, length, get_or, sym, ap, ◌∙◌, subst, arith}
use Rattle.std.specs.Prelude.{All, is_some}
use Rattle.std.proofs.lemmas.Bool.{leb-true}
use Rattle.std.proofs.lemmas.List.Elements.{All-weaker}
use Rattle.std.proofs.lemmas.List.{get_or_default}
use Rattle.std.proofs.lemmas.Result.{on_ok_weaker}
use Rattle.d64_image.specs.BlockSet.{MembersAreBelow}
use Rattle.d64_map.specs.Laws.{IsFreeForFiles}
use Rattle.d64_map.specs.Map.{free_blocks}
use Rattle.d64_map.specs.Plan.{room}
use Rattle.d64_files.specs.Writing.{blocks_for}
use Rattle.d64_files.proofs.FileBlocks.{needs_one}
use Rattle.d64_effects.proofs.FileChains.{length-with_chain}
use Rattle.d64_effects.proofs.Lengths.{length-with_new_entry}
use Rattle.d64_effects.proofs.TakenBlocks.{free_is_block}
use Rattle.d64_effects.proofs.WrittenImages.{left_are_blocks}
use Rattle.d64_dos.specs.Space.{grown_at}
use Rattle.d64_dos.proofs.Spaces.{room-bound, written_disk-in_space}
use Rattle.d64_dos.proofs.write.put_file.Goals as goal

-- a file has no more blocks than a disk
pub overflow_cast-closed : goal.overflow_cast-closed
overflow_cast-closed c =
    let free = free_blocks c.args.image.now in
    let count = blocks_for (length c.args.file.now.bytes.now) in
    let long = (c.plan_takes_free_blocks.ensures.blocks free count c.args.blocks.now c.requires.taken).0 in
    let within = leb-true count (room free) (sym (c.plan_takes_free_blocks.ensures.there free count) ∙ ap is_some c.requires.taken) in
    let bound = room-bound free in
    omega (arith, long, within, bound)

pub returns-clause-written : goal.returns-clause-written
returns-clause-written c =
    let image = c.args.image.now in
    let file = c.args.file.now in
    let blocks = c.args.blocks.now in
    let count = (c.plan_takes_free_blocks.ensures.blocks (free_blocks image) (blocks_for (length file.bytes.now)) blocks c.requires.taken).0 in
    let some : 0 < length blocks = let h = needs_one (length file.bytes.now) in omega (arith, h, count) in
    let first : c.index-blocks-0.result ≡ get_or blocks 0 0 =
    c.index-blocks-0.is ∙ get_or_default blocks 0 c.index-blocks-0.result 0 some in
    let entered = c.in_ok-put_new_entry.ensures.written in
    let chained = c.in_ok-put_chain.ensures.written in
    let whole = written_disk-in_space image file.name.now file.kind file.bytes.now blocks c.args.space.now c.requires in
    on_ok_weaker c.put_map.result (λ written. let mapped = written in cc) c.put_map.ensures.written

-- the image has the blocks of the file
pub put_chain-requires-clause-blocks : goal.put_chain-requires-clause-blocks
put_chain-requires-clause-blocks c =
    let image = c.args.image.now in
    let taken = c.args.blocks.now in
    let free = (c.plan_takes_free_blocks.ensures.blocks (free_blocks image) (blocks_for (length c.args.file.now.bytes.now)) taken c.requires.taken).1 in
    let held = All-weaker (IsFreeForFiles (free_blocks image)) (λ block. block < length image) (λ block h. free_is_block image block h.0) taken free in
    let long = ap length c.in_ok-put_new_entry.ensures.written ∙ length-with_new_entry image _ in
    subst (λ (n : ℕ). All (λ block. block < n) taken) (sym long) held

-- and those that stay free
pub put_map-requires : goal.put_map-requires
put_map-requires c =
    let image = c.args.image.now in
    let space = c.args.space.now in
    let long =
    ap length c.in_ok-put_chain.ensures.written ∙ length-with_chain _ _ c.args.file.now.bytes.now
    ∙ ap length c.in_ok-put_new_entry.ensures.written ∙ length-with_new_entry image _ in
    record {
      members = subst (λ (n : ℕ). MembersAreBelow n space.free) (sym long)
          (subst (MembersAreBelow (length image)) (sym c.requires.left) (left_are_blocks image (c.args.blocks.now ++ grown_at space.place)));
    }
