use Rattle.std.proofs.Common.{◌≡◌, ℕ, ◌+◌, ◌∷◌, ◌++◌, ◌/◌, ◌%◌, List, [], refl, ap, ap₂, ◌∙◌, arith}
use Rattle.std.proofs.Math.ListN.{replicate}
use Rattle.d64_image.specs.Block.{pair_at}
use Rattle.d64_files.specs.Name.{filled_field}
use Rattle.d64_files.specs.Writing.{written_at, number_of_kind, entry_bytes}
use Rattle.d64_files.proofs.WrittenBytes.{entry_from_parts}
use Rattle.d64_files.proofs.writing.write_entry.Goals as goal

pub returns : goal.returns
unfolding entry_bytes
returns c =
    let old = c.args.block.now in
    let start = c.args.start in
    let name = c.args.name.now in
    let inside = c.requires in
    let long = c.told-block in
    let high : c.args.blocks / 256 % 256 ≡ c.args.blocks / 256 = let h = c.ranges.blocks.fits in omega arith in
    let entry : ℕ → ℕ → ℕ → List ℕ → List ℕ =
    λ kind track sector size. written_at old start (((128 + kind) ∷ track ∷ sector ∷ []) ++ filled_field name ++ replicate 9 0 ++ size) in
    let named = c.write_at-3.ensures ∙ ap (written_at c.write_at-2.new.block (start + 3)) c.bytes.ensures.bytes in
    entry_from_parts old ((128 + c.number.result) ∷ c.track.result ∷ c.sector.result ∷ []) name c.to_le_bytes.result
    c.write_at.new.block c.write_at-2.new.block c.write_at-3.new.block c.write_at-4.new.block c.write_at-5.new.block
    start (omega arith) refl c.bytes.ensures.name.short c.write_at.ensures c.write_at-2.ensures named c.write_at-4.ensures c.write_at-5.ensures
    ∙ ap₂ (λ (kind track : ℕ). entry kind track c.sector.result c.to_le_bytes.result) c.number.ensures c.track.ensures.pair
    ∙ ap₂ (λ (sector : ℕ) (size : List ℕ). entry (number_of_kind c.args.kind) (pair_at c.args.first).0 sector size) c.sector.ensures.pair
    (c.to_le_bytes.ensures ∙ ap (λ (n : ℕ). (c.args.blocks % 256) ∷ n ∷ []) high)
