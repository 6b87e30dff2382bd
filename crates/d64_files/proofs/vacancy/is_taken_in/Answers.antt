use Rattle.std.proofs.Common.{◌≡◌, ℕ, ◌%◌, ◌<◌, Bool, List, refl, sym, ap, ◌∙◌, arith}
use Rattle.d64_image.specs.Image.{sector_at}
use Rattle.d64_files.specs.Directory.{entry_of, has_name}
use Rattle.d64_files.specs.Slot.{EntryView, cell}
use Rattle.d64_files.proofs.SlotTests.{any_more, any_found, any_past}
use Rattle.d64_files.proofs.vacancy.is_taken_in.Goals as goal

pub loop-index-init : goal.loop-index-init
loop-index-init c = refl

-- the slot that is looked at is that of the index
tested : (image : List (List ℕ)) (name : List ℕ) (block index slot : ℕ) (entry : EntryView) (result : Bool) → index < 8 → slot ≡ index
    → entry ≡ entry_of image (slot, cell (sector_at image block) (slot % 8)) → result ≡ has_name name entry.bytes
    → has_name name (cell (sector_at image block) index) ≡ result
tested image name block index slot entry result small same is known =
    let place : slot % 8 ≡ index = omega arith in
    sym (known ∙ ap (λ (e : EntryView). has_name name e.bytes) is ∙ ap (λ (n : ℕ). has_name name (cell (sector_at image block) n)) place)

pub returns-then-has_name : goal.returns-then-has_name
returns-then-has_name c =
    let at = tested c.args.image.now c.args.name.now c.args.block c.loop-index.index _ _ _ (omega arith) c.at.ensures c.entry_in.ensures c.has_name.ensures in
    sym (any_found (has_name c.args.name.now) (sector_at c.args.image.now c.args.block) c.loop-index.index (omega arith) (at ∙ c.if-has_name.true))
    ∙ c.loop-index.invariant

pub loop-index-preserved : goal.loop-index-preserved
loop-index-preserved c =
    let at = tested c.args.image.now c.args.name.now c.args.block c.loop-index.index _ _ _ (omega arith) c.at.ensures c.entry_in.ensures c.has_name.ensures in
    sym (any_more (has_name c.args.name.now) (sector_at c.args.image.now c.args.block) c.loop-index.index (omega arith) (at ∙ c.if-has_name.false))
    ∙ c.loop-index.invariant

pub returns : goal.returns
returns c = sym (any_past (has_name c.args.name.now) (sector_at c.args.image.now c.args.block) c.loop-index.index c.loop-index-test.false) ∙ c.loop-index.invariant
