use Rattle.std.proofs.Common.{◌≡◌, ℕ, ◌+◌, ◌-◌, ◌<◌, length, get_or, ap, ◌∙◌, arith}
use Rattle.std.proofs.lemmas.List.{length-set}
use Rattle.std.proofs.lemmas.Result.{on_ok_weaker}
use Rattle.d64_files.proofs.FileBlocks.{needs_one, count_after, after_first, after_last}
use Rattle.d64_files.proofs.writing.put_chain.Goals as goal

pub loop-place-preserved : goal.loop-place-preserved
loop-place-preserved c =
    let within = c.loop-place-test.true in
    let inside : c.loop-place.place + 1 < length c.args.blocks.now = omega arith in
    record {
      image = after_first c.loop-place.image c.write.new.image c.args.blocks.now c.loop-place.rest.now c.linked_block.result c.loop-place.place
          c.index-blocks-place.result c.index-blocks-place-in-loop-place.result inside c.index-blocks-place.is c.index-blocks-place-in-loop-place.is
          c.linked_block.ensures c.in_ok-write.ensures.written
          ∙ c.loop-place.invariant.image;
      long = ap length c.in_ok-write.ensures.written ∙ length-set c.loop-place.image _ _ ∙ c.loop-place.invariant.long;
      back = (c.write.ensures.back.0 ∙ c.loop-place.invariant.back.0, λ h. c.write.ensures.back.1 (c.loop-place.invariant.back.1 h));
      count = count_after c.loop-place.place (length c.args.blocks.now) c.loop-place.rest.now inside c.loop-place.invariant.count;
    }

pub returns-clause-written : goal.returns-clause-written
returns-clause-written c =
    let fits = c.loop-place.invariant.count in
    let some = needs_one (length c.loop-place.rest.now) in
    let test = c.loop-place-test.false in
    let end = c.loop-place.auto.place-end in
    let last : length c.args.blocks.now - 1 ≡ c.loop-place.place = omega arith in
    on_ok_weaker c.write-2.result
    (λ written.
    written
    ∙ after_last c.loop-place.image c.args.blocks.now c.loop-place.rest.now c.last_block.result c.loop-place.place c.index-blocks-last.result (omega arith)
    (c.index-blocks-last.is ∙ ap (λ (n : ℕ). get_or c.args.blocks.now n c.index-blocks-last.result) last) c.last_block.ensures
    ∙ c.loop-place.invariant.image)
    c.write-2.ensures.written
