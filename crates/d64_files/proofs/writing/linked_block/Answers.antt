use Rattle.std.proofs.Common.{ℕ, ◌∷◌, ◌++◌, [], take, refl, ap₂, ◌∙◌}
use Rattle.std.proofs.Math.ListN.{replicate}
use Rattle.std.proofs.lemmas.List.{length-take-le}
use Rattle.d64_files.proofs.WrittenBytes.{linked_from_parts}
use Rattle.d64_files.proofs.writing.linked_block.Goals as goal

pub returns : goal.returns
returns c =
    linked_from_parts (replicate 256 0) (c.track.result ∷ c.sector.result ∷ []) (take 254 c.args.bytes.now) c.write_at.new.block c.write_at-2.new.block
    refl refl (length-take-le 254 c.args.bytes.now c.requires) c.write_at.ensures c.write_at-2.ensures
    ∙ ap₂ (λ (track sector : ℕ). (track ∷ sector ∷ []) ++ take 254 c.args.bytes.now) c.track.ensures.pair c.sector.ensures.pair
