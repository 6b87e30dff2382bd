use Rattle.std.proofs.Common.{◌≡◌, ℕ, ◌+◌, get_or, ap, ◌∙◌, arith}
use Rattle.std.specs.Int.{bit_at}
use Rattle.d64_map.specs.Map.{map_entry_place}
use Rattle.d64_map.proofs.TrackBits.{bytes_read}
use Rattle.d64_map.proofs.block_map.bits_on.Goals as goal

pub returns : goal.returns
returns c sector short =
    let map = c.args.map.now in
    let track = c.args.track in
    let entry = c.entry_of-entry.result in
    let low : entry + 1 ≡ map_entry_place track + 1 + 0 = omega (arith, c.entry_of-entry.ensures.place) in
    let middle : entry + 2 ≡ map_entry_place track + 1 + 1 = omega (arith, c.entry_of-entry.ensures.place) in
    let high : entry + 3 ≡ map_entry_place track + 1 + 2 = omega (arith, c.entry_of-entry.ensures.place) in
    ap (λ (n : ℕ). bit_at n sector) c.from_le_bytes.ensures
    ∙ bytes_read map track sector (get_or map (entry + 1) 0) (get_or map (entry + 2) 0) (get_or map (entry + 3) 0)
    (c.fits-map (entry + 1)) (c.fits-map (entry + 2))
    (ap (λ (i : ℕ). get_or map i 0) low) (ap (λ (i : ℕ). get_or map i 0) middle) (ap (λ (i : ℕ). get_or map i 0) high) short
