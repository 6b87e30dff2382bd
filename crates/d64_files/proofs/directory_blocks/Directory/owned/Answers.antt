use Rattle.std.proofs.Common.{◌≡◌, ℕ, List, [], ◌∷◌, ◌++◌, sym, ap, ◌∙◌, subst, rules}
use Rattle.std.specs.Prelude.{All}
use Rattle.std.specs.List.{flat_map}
use Rattle.d64_map.specs.Map.{map_block}
use Rattle.d64_files.specs.Slot.{EntryView}
use Rattle.d64_files.specs.Ownership.{owned_by, HasItsChains}
use Rattle.d64_files.specs.Claims.{claims_of}
use Rattle.d64_files.specs.Directory.{directory, slots, entries, owned_blocks, IsFirstFault}
use Rattle.d64_files.proofs.Owners.{entries_all, all_entries}
use Rattle.d64_files.proofs.Verdicts.{all_claimed, missing_chain, finished}
use Rattle.d64_files.proofs.directory_blocks.Directory.owned.Goals as goal

-- the chains of the entries of an image are those of its slots
chains_there : (image given : List (List ℕ)) (walk : List EntryView) → given ≡ image → walk ≡ entries image (slots image)
    → All (λ (entry : EntryView). HasItsChains given entry.bytes) walk → All (HasItsChains image) (slots image)
chains_there image given walk same all there =
    all_entries (HasItsChains image) image 0 (slots image)
    (subst (λ (walk : List EntryView). All (λ (entry : EntryView). HasItsChains image entry.bytes) walk) all
    (subst (λ (i : List (List ℕ)). All (λ (entry : EntryView). HasItsChains i entry.bytes) walk) same there))

-- and the other way round
chains_given : (image given : List (List ℕ)) (walk : List EntryView) → given ≡ image → walk ≡ entries image (slots image)
    → All (HasItsChains image) (slots image) → All (λ (entry : EntryView). HasItsChains given entry.bytes) walk
chains_given image given walk same all there =
    subst (λ (i : List (List ℕ)). All (λ (entry : EntryView). HasItsChains i entry.bytes) walk) (sym same)
    (subst (λ (walk : List EntryView). All (λ (entry : EntryView). HasItsChains image entry.bytes) walk) (sym all)
    (entries_all (HasItsChains image) image 0 (slots image) there))

pub returns : goal.returns
returns c =
    let image = c.args.self.now in
    let first : c.claim.new.self ≡ claims_of (map_block ∷ []) =
    c.claim.ensures [] c.none-claims.ensures ∙ ap (λ (b : ℕ). claims_of (b ∷ [])) c.map_block.ensures in
    let second : c.claim_all.new.self ≡ claims_of ((map_block ∷ []) ++ directory image) =
    c.claim_all.ensures (map_block ∷ []) first ∙ ap (λ (bs : List ℕ). claims_of ((map_block ∷ []) ++ bs)) c.blocks-2.ensures.blocks in
    let all : c.claim_files.new.self ≡ claims_of (owned_blocks image) =
    c.in_ok-claim_files.ensures.claimed ((map_block ∷ []) ++ directory image) second
    ∙ ap (λ (i : List (List ℕ)). claims_of (((map_block ∷ []) ++ directory image) ++ flat_map (λ (entry : EntryView). owned_by i entry.bytes) c.slots.result)) c.image.ensures
    ∙ all_claimed image c.slots.result c.slots.ensures.slots in
    finished image c.finish.result c.blocks-2.ensures.conditions
    (chains_there image c.image.result.now c.slots.result c.image.ensures c.slots.ensures.slots c.in_ok-claim_files.ensures.chains) (c.finish.ensures (owned_blocks image) all)

pub returns-in_err-claim_files : goal.returns-in_err-claim_files
returns-in_err-claim_files c =
    let image = c.args.self.now in
    let fault = c.in_err-claim_files.field-0.0 in
    let known : IsFirstFault image 2 5 fault =
    subst (IsFirstFault image 2 5) (sym c.in_err-claim_files.ensures.chains.0)
    (missing_chain image c.blocks-2.ensures.conditions
    (λ all. c.in_err-claim_files.ensures.chains.1 (chains_given image c.image.result.now c.slots.result c.image.ensures c.slots.ensures.slots all))) in
    search rules
