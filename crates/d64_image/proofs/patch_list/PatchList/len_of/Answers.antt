use Rattle.std.proofs.Common.{◌≡◌, ◌<◌, ◌≤◌, Bool, true, false, nat_lt, cond, Some, None, List, [], length, get_or, sym, ap, ◌∙◌, arith, rules}
use Rattle.std.proofs.lemmas.Bool.Decides.{nat_tests}
use Rattle.d64_image.specs.Patch.{Kept}
use Rattle.d64_image.proofs.PatchLists.{length-cut_blocks, length-at}
use Rattle.d64_image.proofs.patch_list.PatchList.len_of.Goals as goal

-- there is no such patch
pub returns-in_err-get : goal.returns-in_err-get
returns-in_err-get c =
    let beyond : length c.self.inside.lens.items ≤ c.args.number = search rules in
    let count = length-cut_blocks c.self.inside.lens.items c.self.inside.blocks.items in
    let all = ap (λ (xs : List Kept). length xs) c.self.view_is in
    let most : length c.args.self.now ≤ c.args.number = omega arith in
    let no : nat_lt c.args.number (length c.args.self.now) ≡ false = grind (arith, nat_tests) in
    c.from_residual.ensures ∙ sym (ap (λ (t : Bool). cond t (Some (length (get_or c.args.self.now c.args.number []))) None) no)

-- its blocks are counted
pub returns : goal.returns
returns c =
    let lens = c.self.inside.lens.items in
    let within : c.args.number < length lens = search rules in
    let count = length-cut_blocks lens c.self.inside.blocks.items in
    let all = ap (λ (xs : List Kept). length xs) c.self.view_is in
    let inside : c.args.number < length c.args.self.now = omega arith in
    let yes : nat_lt c.args.number (length c.args.self.now) ≡ true = grind (arith, nat_tests) in
    let read : c.in_ok-get.field-0.now ≡ get_or lens c.args.number c.in_ok-get.field-0.now = search rules in
    ap Some (c.from.ensures ∙ read ∙ length-at lens c.self.inside.blocks.items c.args.self.now c.args.number c.in_ok-get.field-0.now c.self.invariant.0 c.self.view_is inside)
    ∙ sym (ap (λ (t : Bool). cond t (Some (length (get_or c.args.self.now c.args.number []))) None) yes)
