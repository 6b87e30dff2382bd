use Rattle.std.proofs.Common.{◌≡◌, ℕ, ◌+◌, ◌*◌, length, ap, ap₂, ◌∙◌, arith}
use Rattle.std.specs.Prelude.{min}
use Rattle.std.specs.Io.Iter.{u64_saturate}
use Rattle.d64_image.specs.Image.{bytes_of}
use Rattle.d64_image.specs.PatchList.{blocks_before}
use Rattle.d64_history.specs.SessionFile.{file_with}
use Rattle.d64_history.proofs.FileLengths.{length-file, length-records, counted_on, counted_over}
use Rattle.d64_history.proofs.keeping.file_len.Goals as goal

-- two bytes of each record, and the blocks of all
pub returns : goal.returns
returns c = λ done.
    let most : ℕ = 18446744073709551615 in
    let image : ℕ = 21 + length (bytes_of c.args.image.now) in
    let counts : ℕ = length c.args.records.now * 2 in
    let blocks : ℕ = blocks_before c.args.records.now (length c.args.records.now) * 258 in
    let long : 21 + length c.bytes.result.now ≡ image = ap (λ (xs : _). 21 + length xs) c.bytes.ensures.value in
    let numbers : c.saturating_mul-counts.result ≡ min counts most = c.saturating_mul-counts.ensures ∙ ap (λ (n : ℕ). min (n * 2) most) c.len.ensures in
    let contents : c.saturating_mul-blocks.result ≡ min blocks most = c.saturating_mul-blocks.ensures ∙ ap (λ (n : ℕ). min (n * 258) most) c.end.ensures.blocks in
    let first : c.saturating_add.result ≡ min (image + counts) most =
    c.saturating_add.ensures ∙ ap₂ (λ (a b : ℕ). min (a + b) most) long numbers ∙ counted_over most image counts in
    let all = length-records c.args.records.now c.known_patches.ensures in
    let file = length-file c.args.image.now done c.args.records.now in
    let sum : image + counts + blocks ≡ length (file_with c.args.image.now done c.args.records.now) = omega arith in
    c.saturating_add-2.ensures
    ∙ ap₂ (λ (a b : ℕ). min (a + b) most) first contents
    ∙ counted_over most (min (image + counts) most) blocks
    ∙ counted_on most (image + counts) blocks
    ∙ ap u64_saturate sum
