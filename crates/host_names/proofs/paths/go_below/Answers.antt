use Rattle.std.proofs.Common.{ap, ◌∙◌, ◌++◌, ◌∷◌, [], List, ℕ, string_bytes, arith}
use Rattle.host_names.proofs.FolderLists.{gone_below, all_below}
use Rattle.host_names.proofs.paths.go_below.Goals as goal

pub loop-folder-preserved : goal.loop-folder-preserved
loop-folder-preserved c =
    gone_below _ _ c.args.folders.now c.loop-folder.folder-index _ c.loop-folder-test.true
    (c.in_ok-push.ensures.bytes ∙ ap (λ (e : List ℕ). string_bytes c.push_str.new.self ++ e) (c.in_ok-push.ensures.ascii (omega arith)) ∙ ap (λ (b : List ℕ). b ++ 47 ∷ []) c.in_ok-push_str.ensures.bytes)
    ∙ c.loop-folder.invariant

pub returns : goal.returns
returns c = all_below _ c.args.folders.now c.loop-folder.folder-index c.loop-folder-test.false ∙ c.loop-folder.invariant
