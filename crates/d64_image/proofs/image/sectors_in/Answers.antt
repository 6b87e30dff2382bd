use Rattle.std.proofs.Common.{◌≡◌, ℕ, ◌/◌, ◌<◌, List, length, ap, ◌∙◌, sym, subst, inl, inr, arith, rules}
use Rattle.std.specs.List.{All, flat_map}
use Rattle.std.specs.Simd.{first_chunks}
use Rattle.d64_image.specs.Image.{IsBlock, IsSize}
use Rattle.d64_image.proofs.Chunks.{length-first_chunks, flat_map-first_chunks, All-first_chunks}
use Rattle.d64_image.proofs.image.sectors_in.Goals as goal
use Rattle.d64_image.proofs.image.sectors_in.Goals.{else-bytes-via-then-bytes+else-bytes-2, else-bytes-via-else-bytes}

-- the sectors joined are the bytes
pub returns-clause-kept : goal.returns-clause-kept
returns-clause-kept c =
    let e : c.as_chunks.result.0.now ≡ first_chunks 256 (length c.args.bytes.now / 256) c.args.bytes.now = search rules in
    ap (flat_map (λ (x : List ℕ). x)) e ∙ flat_map-first_chunks 256 (length c.args.bytes.now / 256) c.args.bytes.now (omega arith)

-- each sector is a block
pub returns-clause-image : goal.returns-clause-image
returns-clause-image c =
    let e : c.as_chunks.result.0.now ≡ first_chunks 256 (length c.args.bytes.now / 256) c.args.bytes.now = search rules in
    let long : length c.as_chunks.result.0.now ≡ length c.args.bytes.now / 256 =
    ap length e ∙ length-first_chunks 256 (length c.args.bytes.now / 256) c.args.bytes.now in
    let l : IsSize (length c.as_chunks.result.0.now) = elim c.else-bytes.branch [
      | else-bytes-via-then-bytes+else-bytes-2 w ↦ let last = w.if-bytes-2.false in inr (omega arith)
      | else-bytes-via-else-bytes w ↦ let first = w.if-bytes.false in inl (omega arith)
    ] in
    (l, subst (All IsBlock) (sym e) (All-first_chunks (λ (byte : ℕ). byte < 256) 256 (length c.args.bytes.now / 256) c.args.bytes.now (omega arith) c.known_bytes.ensures))
