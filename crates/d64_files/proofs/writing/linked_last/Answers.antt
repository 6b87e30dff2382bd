use Rattle.std.proofs.Common.{◌≡◌, ℕ, ◌<◌, ◌∷◌, List, [], length, sym, ap, ap₂, ◌∙◌, subst, arith}
use Rattle.d64_image.specs.Image.{IsSize, sector_at}
use Rattle.d64_image.proofs.Sizes.{size_least}
use Rattle.d64_files.specs.Writing.{written_at, dir_last}
use Rattle.d64_files.proofs.SlotLists.{dir_last-within}
use Rattle.d64_files.proofs.writing.linked_last.Goals as goal

-- the image has the directory's last block
last_within : (image : List (List ℕ)) (last : ℕ) → IsSize (length image) → last ≡ dir_last image → last < length image
last_within image last size is = subst (λ (b : ℕ). b < length image) (sym is) (dir_last-within image (let least = size_least (length image) size in omega arith))

pub sector-requires : goal.sector-requires
sector-requires c = last_within c.args.image.now c.args.last c.known_image.ensures.size c.requires

pub returns-clause-linked : goal.returns-clause-linked
returns-clause-linked c =
    let last = sector_at c.args.image.now c.args.last in
    c.write_at.ensures
    ∙ ap (λ (bytes : List ℕ). written_at bytes 0 (c.track.result ∷ c.sector-2.result ∷ [])) c.sector.ensures.value
    ∙ ap₂ (λ (track sector : ℕ). written_at last 0 (track ∷ sector ∷ [])) c.track.ensures.pair c.sector-2.ensures.pair

pub returns-clause-within : goal.returns-clause-within
returns-clause-within c = last_within c.args.image.now c.args.last c.known_image.ensures.size c.requires
