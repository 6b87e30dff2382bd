use Rattle.std.proofs.Common.{◌≡◌, ◌≤◌, ◌+◌, ℕ, List, [], ◌∷◌, ◌++◌, length, take, sym, ap, ap₂, ◌∙◌, subst, arith, rules}
use Rattle.std.specs.Vec.{vec_len}
use Rattle.d64_image.specs.declared.block.TheConstants.{BLOCKS}
use Rattle.d64_image.specs.Patch.{Kept}
use Rattle.d64_image.specs.PatchList.{cut_blocks, total, blocks_before}
use Rattle.d64_image.proofs.PatchLists.{AreRecords, before-cut_blocks, total-take, cut_blocks-take, cut_blocks-push, first-are_records, pushed-are_records, moved_front, rises-long}
use Rattle.d64_image.proofs.patch_list.PatchList.replace_from.Goals as goal
use Rattle.d64_image.proofs.patch_list.PatchList.replace_from.Goals.{After-unwrap, After-extend_from_slice}

-- how many blocks come before the records that go
before : (lens : List ℕ) (blocks : Kept) (records : List Kept) (number place : ℕ) → AreRecords lens blocks → cut_blocks lens blocks ≡ records
    → place ≡ blocks_before records number → (place ≡ total (take number lens)) × (place ≤ length blocks)
before lens blocks records number place are is at =
    let same : place ≡ total (take number lens) = at ∙ sym (ap (λ (all : List Kept). blocks_before all number) is) ∙ before-cut_blocks lens blocks number are.0 in
    let less = total-take lens number in
    let count = are.0 in
    (same, omega arith)

pub copy_within-requires-clause-dest_in_bounds : goal.copy_within-requires-clause-dest_in_bounds
copy_within-requires-clause-dest_in_bounds c =
    let b = before c.self.inside.lens.items c.self.inside.blocks.items c.args.self.now c.args.place.number c.args.place.blocks c.self.invariant c.self.view_is c.requires.place in
    let place = b.1 in
    let end = c.len-end.ensures in
    let long : vec_len c.reserve_first.new.blocks ≡ length c.reserve_first.new.blocks.items = search rules in
    let same : length c.reserve_first.new.blocks.items ≡ length c.self.inside.blocks.items = ap length c.reserve_first.ensures.same in
    let more = c.in_ok-extend_from_slice.ensures.len in
    omega arith

pub overflow_cast-blocks : goal.overflow_cast-blocks
overflow_cast-blocks c =
    let long : 0 + length c.args.patch.now ≤ BLOCKS = rises-long c.args.patch.now 0 BLOCKS (omega arith) c.blocks-blocks.ensures.ascending in
    let same : length c.blocks-blocks.result.now ≡ length c.args.patch.now = ap length c.blocks-blocks.ensures.kept in
    omega arith

-- both lists
lists : (c : After-unwrap)
    → (c.push.new.self.items ≡ take c.args.place.number c.self.inside.lens.items ++ length c.args.patch.now ∷ [])
    × (c.truncate.new.self.items ≡ take (total (take c.args.place.number c.self.inside.lens.items)) c.self.inside.blocks.items ++ c.args.patch.now)
lists c =
    let b = before c.self.inside.lens.items c.self.inside.blocks.items c.args.self.now c.args.place.number c.args.place.blocks c.self.invariant c.self.view_is c.requires.place in
    let kept = c.blocks-blocks.ensures.kept in
    let one : length c.blocks-blocks.result.now ≡ length c.args.patch.now = ap length kept in
    let reserved = c.in_ok-reserve.ensures.items in
    let truncated = c.truncate-2.ensures.items in
    let pushed = rw c.unwrap.ensures at c.push.ensures.items in
    let end : c.len-end.result ≡ length c.self.inside.blocks.items = search rules in
    let all : vec_len c.extend_from_slice.new.self ≡ length c.extend_from_slice.new.self.items = search rules in
    let added : c.extend_from_slice.new.self.items ≡ c.self.inside.blocks.items ++ c.args.patch.now = search rules in
    let moved = moved_front c.self.inside.blocks.items c.args.patch.now c.extend_from_slice.new.self.items c.args.place.blocks c.len-end.result (vec_len c.extend_from_slice.new.self)
    b.1 end all added in (
      cc,
      c.truncate.ensures.items
          ∙ ap₂ (λ (n : ℕ) (xs : Kept). take (c.args.place.blocks + n) xs) one c.copy_within.ensures.items
          ∙ moved
          ∙ ap (λ (n : ℕ). take n c.self.inside.blocks.items ++ c.args.patch.now) b.0,
    )

pub invariant_of-self-2 : goal.invariant_of-self-2
invariant_of-self-2 c =
    let l = lists c in
    let lens = take c.args.place.number c.self.inside.lens.items in
    let blocks = take (total lens) c.self.inside.blocks.items in
    subst (AreRecords c.push.new.self.items) (sym l.1)
    (subst (λ (all : List ℕ). AreRecords all (blocks ++ c.args.patch.now)) (sym l.0)
    (pushed-are_records lens blocks c.args.patch.now (first-are_records c.self.inside.lens.items c.self.inside.blocks.items c.args.place.number c.self.invariant)
    c.blocks-blocks.ensures.ascending c.blocks-blocks.ensures.bytes))

pub returns-clause-replaced : goal.returns-clause-replaced
returns-clause-replaced c =
    let l = lists c in
    let lens = take c.args.place.number c.self.inside.lens.items in
    let blocks = take (total lens) c.self.inside.blocks.items in
    let first = first-are_records c.self.inside.lens.items c.self.inside.blocks.items c.args.place.number c.self.invariant in
    let count = c.self.invariant.0 in
    ap₂ cut_blocks l.0 l.1
    ∙ cut_blocks-push lens blocks c.args.patch.now first.0
    ∙ ap (λ (records : List Kept). records ++ c.args.patch.now ∷ [])
    (cut_blocks-take c.self.inside.lens.items c.self.inside.blocks.items c.args.place.number (omega arith) ∙ ap (take c.args.place.number) c.self.view_is)
