use Rattle.std.proofs.Common.{◌≡◌, ℕ, ◌/◌, ◌<◌, List, [], Option, Some, length, get_or, sym, ap, ◌∙◌, subst, arith}
use Rattle.std.specs.Prelude.{unwrap_or}
use Rattle.std.proofs.lemmas.Grind.{get_or_default_zero}
use Rattle.d64_files.specs.Directory.{directory, slots}
use Rattle.d64_files.proofs.SlotLists.{length-slots_in, slot_block-within}
use Rattle.d64_files.proofs.directory_blocks.block_of_slot.Goals as goal

-- the blocks that were found are the directory's
blocks_are : (image : List (List ℕ)) (found : Option (List ℕ)) (list items : List ℕ) → items ≡ list → found ≡ Some list → unwrap_or found [] ≡ directory image
    → items ≡ directory image
blocks_are image found list items same some is = same ∙ ap (λ (o : Option (List ℕ)). unwrap_or o []) (sym some) ∙ is

-- one of them has the slot
slot_within : (image : List (List ℕ)) (items : List ℕ) (slot place : ℕ)
    → items ≡ directory image → place ≡ slot → slot < length (slots image) → place / 8 < length items
slot_within image items slot place same here within =
    let e = ap length same in let count = length-slots_in image (directory image) in omega arith

pub bounds-as_slice-place : goal.bounds-as_slice-place
bounds-as_slice-place c =
    slot_within c.args.image.now c.as_slice.result.now c.args.slot c.place.result
    (blocks_are c.args.image.now _ _ c.as_slice.result.now c.as_slice.ensures.value c.unwrap-directory.ensures c.directory_blocks.ensures.value)
    c.place.ensures c.requires

pub returns-clause-block : goal.returns-clause-block
returns-clause-block c =
    let image = c.args.image.now in
    let items = c.as_slice.result.now in
    let same = blocks_are image _ _ items c.as_slice.ensures.value c.unwrap-directory.ensures c.directory_blocks.ensures.value in
    c.index-as_slice-place.is
    ∙ get_or_default_zero items (c.place.result / 8) c.index-as_slice-place.result
    (slot_within image items c.args.slot c.place.result same c.place.ensures c.requires)
    ∙ ap (λ (bs : List ℕ). get_or bs (c.place.result / 8) 0) same
    ∙ ap (λ (n : ℕ). get_or (directory image) (n / 8) 0) c.place.ensures

pub returns-clause-held : goal.returns-clause-held
returns-clause-held c = subst (λ (b : ℕ). b < length c.args.image.now) (sym (returns-clause-block c)) (slot_block-within c.args.image.now c.args.slot c.requires)
