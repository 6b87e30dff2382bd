-- Rows of tracks, a block at a time.
use Rattle.std.proofs.Common.{◌≡◌, ℕ, ◌+◌, ◌<◌, ◌≤◌, List, [], ◌∷◌, ◌++◌, Option, Some, None, length, take, sym, ap, ◌∙◌, arith, inl, inr}
use Rattle.std.specs.List.{flat_map}
use Rattle.std.proofs.lemmas.List.{flat_map_more, take_all}
use Rattle.std.proofs.lemmas.List.FromFn.{length-range_with_len}
use Rattle.std.proofs.lemmas.Bool.{cases_lt}
use Rattle.std.proofs.lemmas.Option.{none-some}
use Rattle.std.specs.Prelude.{unwrap_or}
use Rattle.d64_image.specs.Block.{sectors_on, first_block, block_of}
use Rattle.d64_image.proofs.Pairs.{block_of-legal, block_of-none}
use Rattle.d64_map.specs.Track.{blocks_on}
use Rattle.d64_map.proofs.Ranges.{range_push}
use Rattle.d64_map.proofs.Searching.{all_on, take_on}

-- all blocks of a track, if as many are taken as a track can have
pub all_taken : (track count : ℕ) → sectors_on track ≤ count → take count (blocks_on track) ≡ blocks_on track
all_taken track count few =
    take_all count (blocks_on track) (omega (arith, ap length (all_on track), length-range_with_len (first_block track) (sectors_on track)))

-- one sector more
pub one_taken : {A : Type 0} (f : ℕ → List A) (before after old : List A) (track sector block : ℕ) → 1 ≤ track → track < 41
    → block_of track sector ≡ Some block → before ≡ old ++ flat_map f (take sector (blocks_on track)) → after ≡ before ++ f block
    → after ≡ old ++ flat_map f (take (sector + 1) (blocks_on track))
one_taken {A = A} f before after old track sector block one within is so more =
    let held : (sector < sectors_on track) = elim (cases_lt sector (sectors_on track)) [
      | inl held ↦ held
      | inr past ↦ absurd (none-some block (sym (block_of-none track sector (λ _ _ held. omega (arith, held, past))) ∙ is))
    ] in
    let here : block ≡ first_block track + sector = ap (λ (found : Option ℕ). unwrap_or found 0) (sym is ∙ block_of-legal track sector one within held) in
    more ∙ ap (λ (text : List A). text ++ f block) so
    ∙ flat_map_more f old (take sector (blocks_on track)) block
    ∙ ap (λ (blocks : List ℕ). old ++ flat_map f blocks)
    (ap (λ (b : ℕ). take sector (blocks_on track) ++ b ∷ []) here
    ∙ ap (λ (taken : List ℕ). taken ++ (first_block track + sector) ∷ []) (take_on track sector (omega arith))
    ∙ sym (range_push (first_block track) sector)
    ∙ sym (take_on track (sector + 1) (omega arith)))

-- if the track has no such sector, nothing follows
pub none_taken : {A : Type 0} (f : ℕ → List A) (before after old : List A) (track sector : ℕ) → 1 ≤ track → track < 41
    → block_of track sector ≡ None → before ≡ old ++ flat_map f (take sector (blocks_on track)) → after ≡ before
    → after ≡ old ++ flat_map f (take (sector + 1) (blocks_on track))
none_taken {A = A} f before after old track sector one within is so same =
    let past : (sectors_on track ≤ sector) = elim (cases_lt sector (sectors_on track)) [
      | inl held ↦ absurd (none-some _ (sym is ∙ block_of-legal track sector one within held))
      | inr past ↦ past
    ] in
    same ∙ so
    ∙ ap (λ (blocks : List ℕ). old ++ flat_map f blocks) (all_taken track sector past ∙ sym (all_taken track (sector + 1) (omega arith)))
