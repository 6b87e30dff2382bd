use Rattle.std.proofs.Common.{◌≡◌, List, ℕ, Some, None, ap, ◌∙◌}
use Rattle.d64_map.specs.Map.{free_blocks}
use Rattle.d64_effects.specs.Write.{blocks_without}
use Rattle.d64_scratched.specs.Scratched.{scratched_way}
use Rattle.d64_dos.specs.Restoring.{entry_back}
use Rattle.d64_dos.proofs.Restored.{found_back, restored_entry}
use Rattle.d64_dos.proofs.undelete.find_restorable.Goals as goal

pub returns-in-None-clause-slot : goal.returns-in-None-clause-slot
returns-in-None-clause-slot c =
    let same : c.of.result ≡ c.args.directory.now = c.of.ensures ∙ c.of-survey.ensures ∙ c.image.ensures in
    found_back c.args.directory.now c.args.name.now None c.requires
    (c.in-None.ensures ∙ ap (λ (image : List (List ℕ)). entry_back image c.args.directory.now c.args.name.now) same)

pub returns-in-Some-clause-slot : goal.returns-in-Some-clause-slot
returns-in-Some-clause-slot c =
    let same : c.of.result ≡ c.args.directory.now = c.of.ensures ∙ c.of-survey.ensures ∙ c.image.ensures in
    ap Some c.slot.ensures
    ∙ found_back c.args.directory.now c.args.name.now (Some c.in-Some.entry) c.requires
    (c.in-Some.ensures ∙ ap (λ (image : List (List ℕ)). entry_back image c.args.directory.now c.args.name.now) same)

pub returns-in-Some-clause-is : goal.returns-in-Some-clause-is
returns-in-Some-clause-is c =
    let same : c.of.result ≡ c.args.directory.now = c.of.ensures ∙ c.of-survey.ensures ∙ c.image.ensures in
    let found = c.in-Some.ensures ∙ ap (λ (image : List (List ℕ)). entry_back image c.args.directory.now c.args.name.now) same in
    let free = c.free_without.ensures ∙ ap (λ (image : List (List ℕ)). blocks_without (free_blocks image) (scratched_way image c.in-Some.entry.bytes).0) c.image-in-Some.ensures in
    let restored = restored_entry c.args.directory.now c.args.name.now c.in-Some.entry c.free_without.result c.requires found free in
    rw c.slot.ensures (record { there = restored.0; free = restored.1 })
