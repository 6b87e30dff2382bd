use Rattle.std.proofs.Common.{◌≡◌, ℕ, ◌+◌, ◌*◌, List, Option, drop, length, not, sym, ap, ◌∙◌, arith, rules, None}
use Rattle.std.specs.List.{position_from}
use Rattle.std.specs.Option.{option_or}
use Rattle.std.proofs.lemmas.Iterator.Adapters.{position_from-zero}
use Rattle.d64_files.specs.Slot.{is_used}
use Rattle.d64_files.specs.Directory.{directory, slots, slots_in}
use Rattle.d64_files.proofs.SlotLists.{length-slots_in}
use Rattle.d64_files.proofs.SlotTests.{block_lies, none_left, position_of_block}
use Rattle.d64_files.proofs.directory_blocks.Directory.first_empty.Goals as goal

pub loop-place-init : goal.loop-place-init
loop-place-init c = ap (λ (blocks : List ℕ). position_from (λ cell. not (is_used cell)) 0 (slots_in c.args.self.now blocks)) c.blocks-blocks.ensures.blocks

pub sector-block-requires : goal.sector-block-requires
sector-block-requires c =
    block_lies c.args.self.now c.image.result.now c.blocks-blocks.result.now c.loop-place.place c.index-blocks-place.result c.image.ensures
    c.blocks-blocks.ensures.blocks c.loop-place-test.true c.index-blocks-place.is

pub overflow_mul-place : goal.overflow_mul-place
overflow_mul-place c = let few = c.blocks-blocks.ensures.len in omega arith

pub first_empty_of-requires : goal.first_empty_of-requires
first_empty_of-requires c = let few = c.blocks-blocks.ensures.len in omega arith

pub returns-in-Some-clause-slot : goal.returns-in-Some-clause-slot
returns-in-Some-clause-slot c =
    let rest = position_from (λ cell. not (is_used cell)) (8 * (c.loop-place.place + 1)) (slots_in c.args.self.now (drop (c.loop-place.place + 1) c.blocks-blocks.result.now)) in
    sym (position_of_block (λ cell. not (is_used cell)) c.args.self.now c.image.result.now c.blocks-blocks.result.now c.sector-block.result.now c.loop-place.place c.index-blocks-place.result _
    c.image.ensures c.loop-place-test.true c.index-blocks-place.is c.sector-block.ensures.value c.first_empty_of.ensures.slot
    ∙ ap (λ (here : Option ℕ). option_or here rest) c.in-Some.is)
    ∙ c.loop-place.invariant
    ∙ sym (position_from-zero (λ cell. not (is_used cell)) (slots c.args.self.now))

pub returns-in-Some-clause-within : goal.returns-in-Some-clause-within
returns-in-Some-clause-within c =
    let long = length-slots_in c.args.self.now (directory c.args.self.now) in
    let same = ap length c.blocks-blocks.ensures.blocks in
    let here = c.in-Some.ensures.within in
    omega arith

pub loop-place-preserved : goal.loop-place-preserved
loop-place-preserved c =
    let none : c.first_empty_of.result ≡ None = search rules in
    let rest = position_from (λ cell. not (is_used cell)) (8 * (c.loop-place.place + 1)) (slots_in c.args.self.now (drop (c.loop-place.place + 1) c.blocks-blocks.result.now)) in
    sym (position_of_block (λ cell. not (is_used cell)) c.args.self.now c.image.result.now c.blocks-blocks.result.now c.sector-block.result.now c.loop-place.place c.index-blocks-place.result _
    c.image.ensures c.loop-place-test.true c.index-blocks-place.is c.sector-block.ensures.value c.first_empty_of.ensures.slot
    ∙ ap (λ (here : Option ℕ). option_or here rest) none)
    ∙ c.loop-place.invariant

pub returns-clause-slot : goal.returns-clause-slot
returns-clause-slot c =
    sym (ap (position_from (λ cell. not (is_used cell)) (8 * c.loop-place.place)) (none_left c.args.self.now c.blocks-blocks.result.now c.loop-place.place c.loop-place-test.false))
    ∙ c.loop-place.invariant
    ∙ sym (position_from-zero (λ cell. not (is_used cell)) (slots c.args.self.now))
