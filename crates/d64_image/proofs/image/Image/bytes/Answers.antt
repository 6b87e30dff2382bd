use Rattle.std.proofs.Common.{◌≡◌, ℕ, ◌<◌, List, length, ap, ◌∙◌, subst}
use Rattle.std.specs.List.{All, flat_map}
use Rattle.d64_image.specs.declared.image.TheConstants.{BLOCK_BYTES}
use Rattle.d64_image.specs.Image.{IsImage}
use Rattle.d64_image.proofs.Chunks.{All-pieces}
use Rattle.d64_image.proofs.image.Image.bytes.Goals as goal

-- each sector has the bytes of a block, and each of the joined bytes is one
pub returns-clause-image : goal.returns-clause-image
returns-clause-image c =
    let sectors = c.self.inside.sectors.items in
    let lengths = subst (All (λ (sector : List ℕ). length sector ≡ BLOCK_BYTES)) c.as_slice.ensures.value c.known_lengths.ensures in
    let joined : c.as_flattened-bytes.result.now ≡ flat_map (λ (sector : List ℕ). sector) sectors =
    c.as_flattened-bytes.ensures.value ∙ ap (flat_map (λ (sector : List ℕ). sector)) c.deref.ensures.value in
    let bytes = All-pieces (λ (byte : ℕ). byte < 256) sectors (subst (All (λ (byte : ℕ). byte < 256)) joined c.known_bytes.ensures) in
    subst IsImage c.self.view_is (c.self.invariant, λ k d h. (lengths k d h, bytes k d h))
