use Rattle.std.proofs.Common.{◌≡◌, List, [], ◌∷◌, ◌++◌, subst, arith}
use Rattle.std.specs.Result.{OnOk}
use Rattle.std.proofs.lemmas.List.{take_all}
use Rattle.d64_image.specs.Patch.{Kept}
use Rattle.d64_image.proofs.patch_list.PatchList.push.Goals as goal

-- no patch is removed
pub returns-clause-pushed : goal.returns-clause-pushed
returns-clause-pushed c =
    let number = c.end-end.ensures.number in
    subst (λ (patches : List Kept). OnOk c.replace_from.result (c.replace_from.new.self ≡ patches ++ c.args.patch.now ∷ []))
    (take_all c.end-end.result.number c.args.self.now (omega arith)) c.replace_from.ensures.replaced
