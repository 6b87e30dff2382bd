use Rattle.std.proofs.Common.{◌≡◌, ℕ, ◌+◌, ◌-◌, take, drop, sym, ap, ◌∙◌, arith, rules}
use Rattle.std.specs.List.{range_with_len, find}
use Rattle.std.specs.FinSet as set
use Rattle.d64_image.specs.Block.{first_block}
use Rattle.d64_map.specs.Track.{blocks_on}
use Rattle.d64_map.proofs.Searching.{drop_on, take_on, found_either}
use Rattle.d64_map.proofs.search.pick_around.Goals as goal

pub returns : goal.returns
returns c =
    let p = set.contains c.args.free.now in
    let end = ap (λ (n : ℕ). find p (range_with_len (first_block c.args.track + c.args.start) (n - c.args.start))) c.sector_count-end.ensures.sectors in
    let e : first_block c.args.track + 0 ≡ first_block c.args.track = omega arith in
    let n : c.args.start - 0 ≡ c.args.start = omega arith in
    found_either p (drop c.args.start (blocks_on c.args.track)) (take c.args.start (blocks_on c.args.track)) c.pick_between.result c.or_else.result
    (c.pick_between.ensures ∙ end ∙ ap (find p) (sym (drop_on c.args.track c.args.start)))
    (λ second.
    let found : c.or_else.result ≡ find p (range_with_len (first_block c.args.track + 0) (c.args.start - 0)) = search rules in
    found
    ∙ ap (λ (a : ℕ). find p (range_with_len a (c.args.start - 0))) e
    ∙ ap (λ (k : ℕ). find p (range_with_len (first_block c.args.track) k)) n
    ∙ ap (find p) (sym (take_on c.args.track c.args.start c.requires)))
    c.or_else.ensures
