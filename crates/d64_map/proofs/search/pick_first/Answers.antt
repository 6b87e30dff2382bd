use Rattle.std.proofs.Common.{◌≡◌, ℕ, ◌+◌, ◌-◌, ◌++◌, List, refl, sym, ap, ◌∙◌, rules}
use Rattle.std.specs.List.{range_with_len, flat_map, find}
use Rattle.std.specs.FinSet as set
use Rattle.d64_map.specs.Track.{blocks_on}
use Rattle.d64_map.specs.Search.{first_order}
use Rattle.d64_map.specs.Side.{tracks_along}
use Rattle.d64_map.specs.declared.search.Side.TheVariants.{Upper}
use Rattle.d64_map.proofs.Searching.{found_either}
use Rattle.d64_map.proofs.search.pick_first.Goals as goal

-- the blocks of the tracks from 1 to 35, and those beyond
abbrev outward : List ℕ
outward = flat_map (λ distance. blocks_on (18 - distance) ++ blocks_on (18 + distance)) (range_with_len 1 17)

abbrev beyond : List ℕ
beyond = flat_map blocks_on (range_with_len 36 5)

order : first_order ≡ outward ++ beyond
unfolding first_order
order = refl

tracks_beyond : flat_map blocks_on (tracks_along Upper 18 5) ≡ beyond
unfolding tracks_along
tracks_beyond = refl

pub returns : goal.returns
returns c =
    let p = set.contains c.args.free.now in
    found_either p outward beyond c.pick_outward.result c.or_else.result c.pick_outward.ensures
    (λ second. let found : c.or_else.result ≡ find p (flat_map blocks_on (tracks_along Upper 18 5)) = search rules in found ∙ ap (find p) tracks_beyond)
    c.or_else.ensures
    ∙ sym (ap (find p) order)
