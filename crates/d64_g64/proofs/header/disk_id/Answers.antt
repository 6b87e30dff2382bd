use Rattle.std.proofs.Common.{◌≡◌, ℕ, Bool, false, ◌&&◌, Some, get_or, sym, ap, ap₂, ◌∙◌}
use Rattle.std.specs.Option.{option_map}
use Rattle.d64_g64.specs.Starts.{starts_on, next_of}
use Rattle.d64_g64.specs.Codes.{value_or_zero}
use Rattle.d64_g64.specs.Headers.{names_block, is_good_header, id_of, track_disk_id}
use Rattle.d64_g64.proofs.StartPairs.{pair_here, pair_later, no_pair_left}
use Rattle.d64_g64.proofs.header.disk_id.Goals as goal
use Rattle.d64_g64.proofs.header.disk_id.Goals.{else-names-via-then-names+else-is_good, else-names-via-else-names}

pub returns-then-is_good : goal.returns-then-is_good
unfolding track_disk_id
returns-then-is_good c =
    let track = c.args.track.now in
    let starts = starts_on track in
    let next = next_of starts c.loop-index.index in
    let named = rw c.start_at-start.ensures at c.names.ensures in
    let good = rw c.start_at-start.ensures at c.is_good.ensures in
    let passes = ap₂ ◌&&◌ (sym (named next) ∙ c.if-names.true) (sym (good next) ∙ c.if-is_good.true) in
    let found =
    c.loop-index.invariant
    ∙ pair_here (λ pair. names_block track 18 0 pair && is_good_header track pair) starts c.loop-index.index (rw c.count_starts-index-end.ensures at c.loop-index-test.true) passes in
    ap₂ (λ (x y : ℕ). Some (x, y))
    (c.value_or_zero-high.ensures ∙ ap value_or_zero (rw c.start_at-start.ensures at c.value_at.ensures))
    (c.value_or_zero.ensures ∙ ap value_or_zero (rw c.start_at-start.ensures at c.value_at-then-is_good.ensures))
    ∙ sym (ap (option_map (id_of track)) found)

pub loop-index-preserved : goal.loop-index-preserved
loop-index-preserved c =
    let track = c.args.track.now in
    let starts = starts_on track in
    let next = next_of starts c.loop-index.index in
    let named = rw c.start_at-start.ensures at c.names.ensures in
    let pair : ℕ × ℕ = (get_or starts c.loop-index.index 0, next) in
    let fails : (names_block track 18 0 pair && is_good_header track pair) ≡ false = elim c.else-names.branch [
      | else-names-via-then-names+else-is_good w ↦ ap₂ ◌&&◌ (sym (named next) ∙ w.if-names.true) (let good = rw c.start_at-start.ensures at w.is_good.ensures in sym (good next) ∙ w.if-is_good.false)
      | else-names-via-else-names w ↦ ap (λ (b : Bool). b && is_good_header track pair) (sym (named next) ∙ w.if-names.false)
    ] in
    c.loop-index.invariant
    ∙ pair_later (λ pair. names_block track 18 0 pair && is_good_header track pair) starts c.loop-index.index (rw c.count_starts-index-end.ensures at c.loop-index-test.true) fails

pub returns : goal.returns
unfolding track_disk_id
returns c =
    let track = c.args.track.now in
    let none =
    c.loop-index.invariant
    ∙ no_pair_left (λ pair. names_block track 18 0 pair && is_good_header track pair) (starts_on track) c.loop-index.index (rw c.count_starts-index-end.ensures at c.loop-index-test.false) in
    sym (ap (option_map (id_of track)) none)
