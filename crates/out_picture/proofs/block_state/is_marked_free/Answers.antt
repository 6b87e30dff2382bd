use Rattle.std.proofs.Common.{◌≤◌, length, sym, ◌∙◌, arith}
use Rattle.std.proofs.lemmas.Bool.Decides.{nat_tests}
use Rattle.d64_map.proofs.FreeBlocks.{contains-free_blocks-past}
use Rattle.out_picture.proofs.block_state.is_marked_free.Goals as goal

pub returns-else-holds : goal.returns-else-holds
returns-else-holds c =
    let past : length c.args.image.now ≤ c.args.block = let e = sym c.holds.ensures.value ∙ c.if-holds.false in grind (arith, nat_tests) in
    c.if-holds.false ∙ sym (contains-free_blocks-past c.args.image.now c.args.block past)
