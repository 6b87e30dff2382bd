use Rattle.std.proofs.Common.{◌≡◌, List, ℕ, Ok, length, ap, sym, ◌∙◌, arith}
use Rattle.std.specs.Simd.{first_chunks}
use Rattle.d64_image.specs.declared.image.TheConstants.{BLOCK_BYTES}
use Rattle.d64_history.proofs.FilesRead.{length-joined, image_again}
use Rattle.d64_history.proofs.file_parts.image_of.Goals as goal

-- an image is its bytes in pieces of a block each
pub returns-in-Ok : goal.returns-in-Ok
returns-in-Ok c = λ blocks asked.
    let image : List (List ℕ) = c.in-Ok.image in
    let all = length-joined image BLOCK_BYTES (λ k d h. (c.in-Ok.ensures.image.1 k d h).0) in
    let given = ap length c.in-Ok.ensures.kept in
    let long : blocks ≡ length image = omega arith in
    let again : first_chunks BLOCK_BYTES blocks c.args.bytes.now ≡ image =
    ap (λ (n : ℕ). first_chunks BLOCK_BYTES n c.args.bytes.now) long
    ∙ ap (first_chunks BLOCK_BYTES (length image)) (sym c.in-Ok.ensures.kept)
    ∙ image_again image c.in-Ok.ensures.image in
    ap (λ (i : List (List ℕ)). Ok i) again
