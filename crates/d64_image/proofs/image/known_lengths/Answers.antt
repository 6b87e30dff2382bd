use Rattle.std.proofs.Common.{◌≡◌, ℕ, List, length}
use Rattle.std.proofs.lemmas.List.Elements.{All-from_get_or}
use Rattle.d64_image.specs.declared.image.TheConstants.{BLOCK_BYTES}
use Rattle.d64_image.proofs.image.known_lengths.Goals as goal

pub returns : goal.returns
returns c = All-from_get_or (λ (sector : List ℕ). length sector ≡ BLOCK_BYTES) c.args._sectors.now _ c.told-_sectors
