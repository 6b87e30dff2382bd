use Rattle.std.proofs.Common.{◌≡◌, ℕ, List, length, take, ap, ap₂, ◌∙◌}
use Rattle.std.proofs.lemmas.List.{take_all}
use Rattle.sha2.specs.Sha256.{sha256}
use Rattle.d64_files.specs.FileData.{data_along}
use Rattle.d64_inventory.specs.Contents.{digested_content}
use Rattle.d64_inventory.specs.declared.row.Content.{Content}
use Rattle.d64_inventory.proofs.content_table.digest_along.Goals as goal

-- the length and the digest of bytes
known : (bytes : List ℕ) (count : ℕ) (digest : List ℕ) → count ≡ length bytes → digest ≡ sha256 bytes → ◌≡◌ {A = Content} (record { bytes = count; digest = digest }) (digested_content bytes)
unfolding digested_content
known bytes count digest e f = ap₂ (λ (n : ℕ) (d : List ℕ). record { bytes = n; digest = d }) e f

pub returns : goal.returns
returns c =
    let image = c.args.image.now in
    let blocks = c.args.blocks.now in
    let all : take c.loop-block.block-index blocks ≡ blocks = take_all c.loop-block.block-index blocks c.loop-block-test.false in
    known (data_along image blocks) c.loop-block.bytes c.finalize.result
    (c.loop-block.invariant.count ∙ ap (λ (bs : List ℕ). length (data_along image bs)) all)
    (c.finalize.ensures (data_along image (take c.loop-block.block-index blocks)) c.loop-block.invariant.holds ∙ ap (λ (bs : List ℕ). sha256 (data_along image bs)) all)
