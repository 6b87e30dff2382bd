use Rattle.std.proofs.Common.{◌≡◌, ℕ, ◌/◌, ◌%◌, ◌<◌, List, length, get_or, sym, ap, ap₂, ◌∙◌, subst, arith}
use Rattle.std.proofs.lemmas.Grind.{get_or_default_zero}
use Rattle.d64_files.specs.Directory.{directory, slots}
use Rattle.d64_files.specs.Writing.{slot_block}
use Rattle.d64_files.proofs.SlotLists.{length-slots_in, slot_block-within}
use Rattle.d64_files.proofs.directory_blocks.Directory.place_of.Goals as goal

-- one of the directory's blocks has the slot
slot_within : (image : List (List ℕ)) (items : List ℕ) (slot place : ℕ)
    → items ≡ directory image → place ≡ slot → slot < length (slots image) → place / 8 < length items
slot_within image items slot place same here within =
    let e = ap length same in let count = length-slots_in image (directory image) in omega arith

pub bounds-blocks-place : goal.bounds-blocks-place
bounds-blocks-place c =
    slot_within c.args.self.now c.blocks-2.result.now c.args.slot c.place-place.result c.blocks-2.ensures.blocks c.place-place.ensures c.requires

-- the block of the slot
found : (c : goal.After-index-blocks-place) → c.index-blocks-place.result ≡ slot_block c.args.self.now c.args.slot
found c =
    let image = c.args.self.now in
    let place = c.place-place.result in
    let items = c.blocks-2.result.now in
    c.index-blocks-place.is
    ∙ get_or_default_zero items (place / 8) c.index-blocks-place.result
    (slot_within image items c.args.slot place c.blocks-2.ensures.blocks c.place-place.ensures c.requires)
    ∙ ap (λ (bs : List ℕ). get_or bs (place / 8) 0) c.blocks-2.ensures.blocks
    ∙ ap (λ (n : ℕ). get_or (directory image) (n / 8) 0) c.place-place.ensures

pub returns-clause-place : goal.returns-clause-place
returns-clause-place c = ap₂ (λ (b n : ℕ). (b, n % 8)) (found c) c.place-place.ensures

pub returns-clause-held : goal.returns-clause-held
returns-clause-held c = subst (λ (b : ℕ). b < length c.args.self.now) (sym (found c)) (slot_block-within c.args.self.now c.args.slot c.requires)
