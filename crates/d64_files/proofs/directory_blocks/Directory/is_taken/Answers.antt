use Rattle.std.proofs.Common.{ℕ, ◌+◌, ◌||◌, Bool, List, drop, sym, ap, ◌∙◌}
use Rattle.d64_files.specs.Directory.{slots_in, has_name, is_name_taken}
use Rattle.d64_files.proofs.SlotTests.{any_of_block, block_lies, none_left}
use Rattle.d64_files.proofs.directory_blocks.Directory.is_taken.Goals as goal

pub loop-block-init : goal.loop-block-init
loop-block-init c = ap (λ (blocks : List ℕ). is_name_taken c.args.name.now (slots_in c.args.self.now blocks)) c.blocks-block-items.ensures.blocks

pub is_taken_in-requires : goal.is_taken_in-requires
is_taken_in-requires c =
    block_lies c.args.self.now c.image.result.now c.blocks-block-items.result.now c.loop-block.block-index c.block-item.result c.image.ensures
    c.blocks-block-items.ensures.blocks c.loop-block-test.true c.block-item.is

pub returns-then-is_taken_in : goal.returns-then-is_taken_in
returns-then-is_taken_in c =
    let rest = is_name_taken c.args.name.now (slots_in c.args.self.now (drop (c.loop-block.block-index + 1) c.blocks-block-items.result.now)) in
    sym (any_of_block (has_name c.args.name.now) c.args.self.now c.image.result.now c.blocks-block-items.result.now c.loop-block.block-index c.block-item.result _
    c.image.ensures c.loop-block-test.true c.block-item.is c.is_taken_in.ensures
    ∙ ap (λ (here : Bool). here || rest) c.if-is_taken_in.true)
    ∙ c.loop-block.invariant

pub loop-block-preserved : goal.loop-block-preserved
loop-block-preserved c =
    let rest = is_name_taken c.args.name.now (slots_in c.args.self.now (drop (c.loop-block.block-index + 1) c.blocks-block-items.result.now)) in
    sym (any_of_block (has_name c.args.name.now) c.args.self.now c.image.result.now c.blocks-block-items.result.now c.loop-block.block-index c.block-item.result _
    c.image.ensures c.loop-block-test.true c.block-item.is c.is_taken_in.ensures
    ∙ ap (λ (here : Bool). here || rest) c.if-is_taken_in.false)
    ∙ c.loop-block.invariant

pub returns : goal.returns
returns c =
    sym (ap (is_name_taken c.args.name.now) (none_left c.args.self.now c.blocks-block-items.result.now c.loop-block.block-index c.loop-block-test.false))
    ∙ c.loop-block.invariant
