use Rattle.std.proofs.Common.{◌≡◌, ℕ, ◌+◌, ◌/◌, ◌%◌, ◌<◌, ◌≤◌, List, [], ◌∷◌, length, drop, refl, sym, ap, ◌∙◌, subst, rules}
use Rattle.d64_files.specs.Chain.{LieIn}
use Rattle.d64_image.specs.Image.{sector_at}
use Rattle.d64_files.specs.Slot.{EntryView, cell}
use Rattle.d64_files.specs.Directory.{slots_in, entry_of, entries}
use Rattle.d64_files.proofs.SlotLists.{next_entry, no_entry, bytes_at_place}
use Rattle.d64_files.proofs.slots.SlotsIterator.next.Goals as goal

pub returns-then-index-blocks-clause-steps : goal.returns-then-index-blocks-clause-steps
returns-then-index-blocks-clause-steps c =
    let place = c.self.inside.place in
    let blocks = c.self.inside.directory in
    let past : length blocks ≤ place / 8 = subst (λ (bs : List ℕ). length bs ≤ place / 8) c.as_slice-blocks.ensures.value c.if-index-blocks.true in
    let gone : c.args.self.now ≡ [] = sym c.self.view_is ∙ no_entry c.self.inside.image.now blocks place past in
    (gone, gone)

-- the image has the block of the next slot
pub entry_in-requires : goal.entry_in-requires
entry_in-requires c =
    let image = c.self.inside.image.now in
    let items = c.as_slice-blocks.result.now in
    let lies = subst (LieIn image) (sym c.as_slice-blocks.ensures.value) c.self.invariant in
    subst (λ (b : ℕ). b < length image) (sym c.index-blocks-index.is) (lies (c.self.inside.place / 8) c.index-blocks-index.result c.if-index-blocks.false)

-- what was left is the entry and what is left now
stepped : (c : goal.After-entry_in) → c.args.self.now ≡ c.entry_in.result ∷ drop (c.self.inside.place + 1) (entries c.self.inside.image.now (slots_in c.self.inside.image.now c.self.inside.directory))
stepped c =
    let image = c.self.inside.image.now in
    let place = c.self.inside.place in
    let blocks = c.self.inside.directory in
    let block = c.index-blocks-index.result in
    let bytes = bytes_at_place image blocks c.as_slice-blocks.result.now place block (sector_at image block) (cell (sector_at image block) (place % 8))
    c.as_slice-blocks.ensures.value c.if-index-blocks.false c.index-blocks-index.is refl refl in
    let within = subst (λ (bs : List ℕ). place / 8 < length bs) c.as_slice-blocks.ensures.value c.if-index-blocks.false in
    let entry = c.entry_in.ensures
    ∙ ap (λ (n : ℕ). entry_of image (n, cell (sector_at image block) (n % 8))) c.at.ensures
    ∙ ap (λ (s : List ℕ). entry_of image (place, s)) bytes in
    sym c.self.view_is ∙ next_entry image blocks place within ∙ ap (λ (e : EntryView). e ∷ drop (place + 1) (entries image (slots_in image blocks))) (sym entry)

pub returns-clause-steps : goal.returns-clause-steps
returns-clause-steps c = stepped c

pub returns-clause-goes : goal.returns-clause-goes
returns-clause-goes c = let shorter = ap length (stepped c) in search rules
